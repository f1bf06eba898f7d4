-- The computed list of what a round wants holds just what the clauses want: its parts by the sets they are drawn from, then clause
-- by clause down the tree. Assumes nothing.
use Prim.Native.Nat.{ℕ}
use mathlib.Core.Path.{◌≡◌, refl, ap, subst, subst⁻¹}
use mathlib.Core.List.{List, [], ◌∷◌, ◌++◌}
use mathlib.Core.Logic.Iff
use mathlib.Core.Logic.{◌↔◌, ◌⊎◌, inl, inr, ⊎_elim}
use native.Mathlib.Omega.{arith}
use lib.Dec.{eqb}
use Rattle.limits.specs.Limits.{outermost}
use Rattle.sets.specs.Set.{Has}
use Rattle.sets.specs.inner.Compute.{list_of}
use Rattle.sets.proofs.Listed.{Mem, listed_members}
use Rattle.lines.specs.declared.Marker.{Marker}
use Rattle.lines.specs.declared.Marker.TheVariants.{Channel, Binder}
use Rattle.lines.specs.declared.Offer.{Offer}
use Rattle.reading.specs.Plan.{Plan}
use Rattle.reading.specs.Tree.{Tree, nil, silent, send, receive, sum, parallel, restriction, match, replication, bracket}
use Rattle.solving.specs.Solutions.{Fact, binder_set, in_set, out_set, Sets, SetOf}
use Rattle.solving.specs.Clauses.{Some, Heard, Meets, IsOffered}
use Rattle.solving.specs.Rounds.{SendWants, ReceiveWants, BracketWants, Wants, OfferWants, Wanted}
use Rattle.solving.specs.inner.Compute.{each, when, if_some, of_binder, of_in, of_out, set_in, ins_in, outs_in, alike, meets_in, raised, send_wanted, receive_wanted, wanted, offer_wanted, round_wanted}
use Rattle.solving.proofs.Lists.{mem_append, mem_each, mem_when, mem_if, mem_one, mem_pairs}

-- a list of facts as a solution
abbrev pub listed : List Fact → Sets
listed s f = Mem f s

-- facts of two kinds are not the same
other : {A : Type 0} → ◌≡◌ {A = ℕ} 0 1 → A
other z = absurd (omega arith)

-- ---- numbers chosen from the facts

chosen : (s : List Fact) (g : Fact → List ℕ) (o : ℕ) (P : Sets) → ((f : Fact) → Mem o (g f) ↔ P f)
    → Mem o (each s g) ↔ ((f : Fact) × Mem f s × P f)
chosen s g o P h =
    let k = mem_each o s g in
    (λ m. let w = k.0 m in (w.0, w.1, (h w.0).0 w.2), λ w. k.1 (w.0, w.1, (h w.0).1 w.2))

of_binder_lem : (b o : ℕ) (f : Fact) → Mem o (of_binder b f) ↔ (f ≡ binder_set b o)
of_binder_lem b o (binder_set d u) =
    let k = mem_when o d b (u ∷ []) in
    (λ m. let w = k.0 m in let e = (mem_one o u).0 w.1 in let q = w.0 in cc, λ (e : binder_set d u ≡ binder_set b o). k.1 (cc, inl (cc)))
of_binder_lem b o (in_set l c u) = (absurd, λ (e : in_set l c u ≡ binder_set b o). other (cc))
of_binder_lem b o (out_set l c u) = (absurd, λ (e : out_set l c u ≡ binder_set b o). other (cc))

of_in_lem : (l c o : ℕ) (f : Fact) → Mem o (of_in l c f) ↔ (f ≡ in_set l c o)
of_in_lem l c o (in_set m d u) =
    let k = mem_when o m l (when (eqb d c) (u ∷ [])) in
    let j = mem_when o d c (u ∷ []) in (
      (λ x. let w = k.0 x in let v = j.0 w.1 in let e = (mem_one o u).0 v.1 in let q = w.0 in let r = v.0 in cc),
      λ (e : in_set m d u ≡ in_set l c o). k.1 (cc, j.1 (cc, inl (cc))),
    )
of_in_lem l c o (binder_set b u) = (absurd, λ (e : binder_set b u ≡ in_set l c o). other (cc))
of_in_lem l c o (out_set m d u) = (absurd, λ (e : out_set m d u ≡ in_set l c o). other (cc))

of_out_lem : (c o : ℕ) (f : Fact) → Mem o (of_out c f) ↔ ((m : ℕ) × (f ≡ out_set m c o))
of_out_lem c o (out_set m d u) =
    let k = mem_when o d c (u ∷ []) in (
      (λ x. let w = k.0 x in let e = (mem_one o u).0 w.1 in let q = w.0 in (m, (cc))),
      λ w. let e : out_set m d u ≡ out_set w.0 c o = w.1 in k.1 (cc, inl (cc)),
    )
of_out_lem c o (binder_set b u) = (absurd, λ w. let e : binder_set b u ≡ out_set w.0 c o = w.1 in other (cc))
of_out_lem c o (in_set m d u) = (absurd, λ w. let e : in_set m d u ≡ out_set w.0 c o = w.1 in other (cc))

-- ---- the offers

-- one of them offers it
offered_by : (offers : List Offer) (c o : ℕ) → IsOffered offers c o ↔ ((offer : Offer) × Mem offer offers × (c ≡ offer.channel) × Has offer.set o)
offered_by [] c o = (absurd, λ w. absurd w.1)
offered_by (offer ∷ offers) c o =
    let rest = offered_by offers c o in (
      ⊎_elim (λ w. (offer, inl refl, w.0, w.1)) (λ w. let v = rest.0 w in (v.0, inr v.1, v.2, v.3)),
      (λ w. ⊎_elim
          (λ e. inl (subst (λ k. (c ≡ k.channel) × Has k.set o) e (w.2, w.3)))
          (λ m. inr (rest.1 (w.0, m, w.2, w.3))) w.1),
    )

offers_are : (offers : List Offer) (f : Fact) → Mem f (offer_wanted offers) ↔ OfferWants offers f
offers_are offers f = Iff.trans (mem_each f offers facts) ((λ w. there w.0 w.1 w.2), back f)
  where
    facts : Offer → List Fact
    facts offer = each (list_of offer.set) (λ o. out_set outermost offer.channel o ∷ [])

    there : (offer : Offer) → Mem offer offers → Mem f (facts offer) → OfferWants offers f
    there offer h m =
        let w = (mem_each f (list_of offer.set) (λ o. out_set outermost offer.channel o ∷ [])).0 m in
        let e = (mem_one f (out_set outermost offer.channel w.0)).0 w.2 in
        let has = (listed_members offer.set w.0).0 w.1 in
        subst⁻¹ (OfferWants offers) e (refl, (offered_by offers offer.channel w.0).1 (offer, h, refl, has))

    back : (f : Fact) → OfferWants offers f → (offer : Offer) × Mem offer offers × Mem f (facts offer)
    back (binder_set b o) w = absurd w
    back (in_set m c o) w = absurd w
    back (out_set m c o) w =
        let v = (offered_by offers c o).0 w.1 in
        let p = w.0 in
        let q = v.2 in
        let same : out_set m c o ≡ out_set outermost v.0.channel o = cc in
        let listed = (listed_members v.0.set o).1 v.3 in
        (v.0, v.1, (mem_each (out_set m c o) (list_of v.0.set) (λ u. out_set outermost v.0.channel u ∷ [])).1 (o, listed, inl same))

-- ---- conditions

module _ (s : List Fact) where
  set_is : (x : Marker) (o : ℕ) → Mem o (set_in s x) ↔ SetOf (listed s) x o
  set_is (Channel c) o = mem_one o c
  set_is (Binder b) o =
      let k = chosen s (of_binder b) o (λ f. f ≡ binder_set b o) (of_binder_lem b o) in
      (λ m. let w = k.0 m in subst (listed s) w.2 w.1, λ h. k.1 (binder_set b o, h, refl))

  ins_is : (l c o : ℕ) → Mem o (ins_in s l c) ↔ listed s (in_set l c o)
  ins_is l c o =
      let k = chosen s (of_in l c) o (λ f. f ≡ in_set l c o) (of_in_lem l c o) in
      (λ m. let w = k.0 m in subst (listed s) w.2 w.1, λ h. k.1 (in_set l c o, h, refl))

  outs_is : (c o : ℕ) → Mem o (outs_in s c) ↔ ((m : ℕ) × listed s (out_set m c o))
  outs_is c o =
      let k = chosen s (of_out c) o (λ f. (m : ℕ) × (f ≡ out_set m c o)) (of_out_lem c o) in
      (λ m. let w = k.0 m in (w.2.0, subst (listed s) w.2.1 w.1), λ h. k.1 (out_set h.0 c o, h.1, (h.0, refl)))

  some_is : (x : Marker) → ((o : ℕ) × Mem o (set_in s x)) ↔ Some (listed s) x
  some_is x = (λ w. (w.0, (set_is x w.0).0 w.1), λ w. (w.0, (set_is x w.0).1 w.1))

  heard_is : (x : Marker) → ((o : ℕ) × Mem o (each (set_in s x) (outs_in s))) ↔ Heard (listed s) x
  heard_is x = (
    (λ w. let v = (mem_each w.0 (set_in s x) (outs_in s)).0 w.1 in
        let u = (outs_is v.0 w.0).0 v.2 in (v.0, (set_is x v.0).0 v.1, (u.0, w.0, u.1))),
    (λ w. let o = w.2.1 in (
      o,
      (mem_each o (set_in s x) (outs_in s)).1 (w.0, (set_is x w.0).1 w.1, (outs_is w.0 o).1 (w.2.0, w.2.2)),
    )),
  )

  alike_is : (x y : Marker) → ((o : ℕ) × Mem o (alike x y)) ↔ (x ≡ y)
  alike_is (Channel c) (Channel d) = (
    (λ w. ap Channel ((mem_when {A = ℕ} w.0 c d (0 ∷ [])).0 w.1).0),
    λ (e : Channel c ≡ Channel d). (0, (mem_when {A = ℕ} 0 c d (0 ∷ [])).1 (cc, inl refl)),
  )
  alike_is (Channel c) (Binder d) = (λ w. absurd w.1, λ (e : Channel c ≡ Binder d). other (cc))
  alike_is (Binder c) (Channel d) = (λ w. absurd w.1, λ (e : Binder c ≡ Channel d). other (cc))
  alike_is (Binder c) (Binder d) = (
    (λ w. ap Binder ((mem_when {A = ℕ} w.0 c d (0 ∷ [])).0 w.1).0),
    λ (e : Binder c ≡ Binder d). (0, (mem_when {A = ℕ} 0 c d (0 ∷ [])).1 (cc, inl refl)),
  )

  meets_is : (x y : Marker) → ((o : ℕ) × Mem o (meets_in s x y)) ↔ Meets (listed s) x y
  meets_is x y = (
    (λ w. ⊎_elim (λ m. inl (there w.0 m)) (λ m. inr ((alike_is x y).0 (w.0, m))) ((split w.0).0 w.1)),
    ⊎_elim (λ w. (w.0, (split w.0).1 (inl (back w.0 w.1 w.2)))) (λ e. let w = (alike_is x y).1 e in (w.0, (split w.0).1 (inr w.1))),
  )
    where
      shared : ℕ → List ℕ
      shared o = each (set_in s y) (λ u. when (eqb u o) (o ∷ []))

      split : (o : ℕ) → Mem o (meets_in s x y) ↔ (Mem o (each (set_in s x) shared) ⊎ Mem o (alike x y))
      split o = mem_append o (each (set_in s x) shared) (alike x y)

      there : (o : ℕ) → Mem o (each (set_in s x) shared) → (o : ℕ) × SetOf (listed s) x o × SetOf (listed s) y o
      there o m =
          let v = (mem_each o (set_in s x) shared).0 m in
          let u = (mem_each o (set_in s y) (λ u. when (eqb u v.0) (v.0 ∷ []))).0 v.2 in
          let w = (mem_when o u.0 v.0 (v.0 ∷ [])).0 u.2 in
          (v.0, (set_is x v.0).0 v.1, subst (SetOf (listed s) y) w.0 ((set_is y u.0).0 u.1))

      back : (o : ℕ) → SetOf (listed s) x o → SetOf (listed s) y o → Mem o (each (set_in s x) shared)
      back o hx hy =
          let here = (mem_when o o o (o ∷ [])).1 (refl, inl refl) in
          let found = (mem_each o (set_in s y) (λ u. when (eqb u o) (o ∷ []))).1 (o, (set_is y o).1 hy, here) in
          (mem_each o (set_in s x) shared).1 (o, (set_is x o).1 hx, found)

  -- ---- what a clause wants by itself

  send_is : (x y : Marker) (l : ℕ) (f : Fact) → Mem f (send_wanted x y l s) ↔ SendWants (listed s) x y l f
  send_is x y l f = Iff.trans (mem_pairs (set_in s x) (λ c. set_in s y) (λ c o. out_set l c o) f) (go f)
    where
      Pair : Sets
      Pair f = (c : ℕ) × Mem c (set_in s x) × ((o : ℕ) × Mem o (set_in s y) × (f ≡ out_set l c o))

      go : (f : Fact) → Pair f ↔ SendWants (listed s) x y l f
      go (binder_set b o) = (λ w. let e : binder_set b o ≡ out_set l w.0 w.2.0 = w.2.2 in other (cc), absurd)
      go (in_set m c o) = (λ w. let e : in_set m c o ≡ out_set l w.0 w.2.0 = w.2.2 in other (cc), absurd)
      go (out_set m c o) = (
        (λ w. let e : out_set m c o ≡ out_set l w.0 w.2.0 = w.2.2 in
            let p : m ≡ l = cc in let q : w.0 ≡ c = cc in let r : w.2.0 ≡ o = cc in
            (p, subst (SetOf (listed s) x) q ((set_is x w.0).0 w.1), subst (SetOf (listed s) y) r ((set_is y w.2.0).0 w.2.1))),
        (λ w. (c, (set_is x c).1 w.1, (o, (set_is y o).1 w.2, ap (λ k. out_set k c o) w.0))),
      )

  receive_is : (x : Marker) (b l : ℕ) (f : Fact) → Mem f (receive_wanted x b l s) ↔ ReceiveWants (listed s) x b l f
  receive_is x b l f = Iff.trans (mem_append f into_in into_binder) (
    (λ m. go f (⊎_elim (λ z. inl ((first f).0 z)) (λ z. inr ((second f).0 z)) m)),
    (λ w. ⊎_elim (λ z. inl ((first f).1 z)) (λ z. inr ((second f).1 z)) (back f w)),
  )
    where
      into_in : List Fact
      into_in = each (set_in s x) (λ c. each (outs_in s c) (λ o. in_set l c o ∷ []))

      into_binder : List Fact
      into_binder = each (set_in s x) (λ c. each (ins_in s l c) (λ o. binder_set b o ∷ []))

      First : Sets
      First f = (c : ℕ) × Mem c (set_in s x) × ((o : ℕ) × Mem o (outs_in s c) × (f ≡ in_set l c o))

      Second : Sets
      Second f = (c : ℕ) × Mem c (set_in s x) × ((o : ℕ) × Mem o (ins_in s l c) × (f ≡ binder_set b o))

      first : (f : Fact) → Mem f into_in ↔ First f
      first f = mem_pairs (set_in s x) (outs_in s) (λ c o. in_set l c o) f

      second : (f : Fact) → Mem f into_binder ↔ Second f
      second f = mem_pairs (set_in s x) (ins_in s l) (λ c o. binder_set b o) f

      go : (f : Fact) → First f ⊎ Second f → ReceiveWants (listed s) x b l f
      go (binder_set d u) (inl w) = let e : binder_set d u ≡ in_set l w.0 w.2.0 = w.2.2 in other (cc)
      go (binder_set d u) (inr w) =
          let e : binder_set d u ≡ binder_set b w.2.0 = w.2.2 in
          let p : d ≡ b = cc in let q : w.2.0 ≡ u = cc in
          let h = subst (λ k. listed s (in_set l w.0 k)) q ((ins_is l w.0 w.2.0).0 w.2.1) in
          (p, (w.0, (set_is x w.0).0 w.1, h))
      go (in_set m c u) (inl w) =
          let e : in_set m c u ≡ in_set l w.0 w.2.0 = w.2.2 in
          let p : m ≡ l = cc in let q : w.0 ≡ c = cc in let r : w.2.0 ≡ u = cc in
          let h = (outs_is w.0 w.2.0).0 w.2.1 in
          let k = subst (λ k. listed s (out_set h.0 c k)) r (subst (λ k. listed s (out_set h.0 k w.2.0)) q h.1) in
          (p, subst (SetOf (listed s) x) q ((set_is x w.0).0 w.1), (h.0, k))
      go (in_set m c u) (inr w) = let e : in_set m c u ≡ binder_set b w.2.0 = w.2.2 in other (cc)
      go (out_set m c u) (inl w) = let e : out_set m c u ≡ in_set l w.0 w.2.0 = w.2.2 in other (cc)
      go (out_set m c u) (inr w) = let e : out_set m c u ≡ binder_set b w.2.0 = w.2.2 in other (cc)

      back : (f : Fact) → ReceiveWants (listed s) x b l f → First f ⊎ Second f
      back (binder_set d u) w =
          let v = w.1 in inr (v.0, (set_is x v.0).1 v.1, (u, (ins_is l v.0 u).1 v.2, ap (λ k. binder_set k u) w.0))
      back (in_set m c u) w = inl (c, (set_is x c).1 w.1, (u, (outs_is c u).1 w.2, ap (λ k. in_set k c u) w.0))
      back (out_set m c u) w = absurd w

  raised_is : (m l : ℕ) (f : Fact) → Mem f (each s (raised m l)) ↔ BracketWants (listed s) m l f
  raised_is m l f = Iff.trans (mem_each f s (raised m l)) ((λ w. there w.0 f w.1 w.2), back f)
    where
      there : (g f : Fact) → Mem g s → Mem f (raised m l g) → BracketWants (listed s) m l f
      there (binder_set b o) f h r = absurd r
      there (in_set j c o) f h r =
          let w = (mem_when f j m (in_set l c o ∷ [])).0 r in
          let e = (mem_one f (in_set l c o)).0 w.1 in
          subst⁻¹ (BracketWants (listed s) m l) e (refl, subst (λ k. listed s (in_set k c o)) w.0 h)
      there (out_set j c o) f h r =
          let w = (mem_when f j m (out_set l c o ∷ [])).0 r in
          let e = (mem_one f (out_set l c o)).0 w.1 in
          subst⁻¹ (BracketWants (listed s) m l) e (refl, subst (λ k. listed s (out_set k c o)) w.0 h)

      back : (f : Fact) → BracketWants (listed s) m l f → (g : Fact) × Mem g s × Mem f (raised m l g)
      back (binder_set b o) w = absurd w
      back (in_set j c o) w =
          (in_set m c o, w.1, (mem_when (in_set j c o) m m (in_set l c o ∷ [])).1 (refl, inl (ap (λ k. in_set k c o) w.0)))
      back (out_set j c o) w =
          (out_set m c o, w.1, (mem_when (out_set j c o) m m (out_set l c o ∷ [])).1 (refl, inl (ap (λ k. out_set k c o) w.0)))

  -- ---- the whole walk

  -- a list of two parts
  either : (f : Fact) (xs ys : List Fact) {P Q : Type 0} → Mem f xs ↔ P → Mem f ys ↔ Q → Mem f (xs ++ ys) ↔ (P ⊎ Q)
  either f xs ys h k = Iff.trans (mem_append f xs ys) (
    ⊎_elim (λ z. inl (h.0 z)) (λ z. inr (k.0 z)),
    ⊎_elim (λ z. inl (h.1 z)) (λ z. inr (k.1 z)),
  )

  pub wanted_is : (p : Tree) (l : ℕ) (f : Fact) → Mem f (wanted p l s) ↔ Wants p l (listed s) f
  unfolding wanted
  wanted_is nil l f = (λ z. z, λ z. z)
  wanted_is (silent p) l f = wanted_is p l f
  wanted_is (restriction x c p) l f = wanted_is p l f
  wanted_is (replication p) l f = wanted_is p l f
  wanted_is (sum p q) l f = either f (wanted p l s) (wanted q l s) (wanted_is p l f) (wanted_is q l f)
  wanted_is (parallel p q) l f = either f (wanted p l s) (wanted q l s) (wanted_is p l f) (wanted_is q l f)
  wanted_is (send x y p) l f =
      let all = wanted p l s ++ send_wanted x y l s in
      let a = either f (wanted p l s) (send_wanted x y l s) (wanted_is p l f) (send_is x y l f) in
      let i = mem_if f (set_in s x) (if_some (set_in s y) all) in
      let j = mem_if f (set_in s y) all in (
        (λ m. let u = i.0 m in let v = j.0 u.1 in (((some_is x).0 u.0, (some_is y).0 v.0), a.0 v.1)),
        (λ w. i.1 ((some_is x).1 w.0.0, j.1 ((some_is y).1 w.0.1, a.1 w.1))),
      )
  wanted_is (receive x y b p) l f =
      let a = either f (wanted p l s) (receive_wanted x b l s) (wanted_is p l f) (receive_is x b l f) in
      let i = mem_if f (each (set_in s x) (outs_in s)) (wanted p l s ++ receive_wanted x b l s) in (
        (λ m. let u = i.0 m in ((heard_is x).0 u.0, a.0 u.1)),
        (λ w. i.1 ((heard_is x).1 w.0, a.1 w.1)),
      )
  wanted_is (match x y p) l f =
      let h = wanted_is p l f in
      let i = mem_if f (meets_in s x y) (wanted p l s) in
      (λ m. let u = i.0 m in ((meets_is x y).0 u.0, h.0 u.1), λ w. i.1 ((meets_is x y).1 w.0, h.1 w.1))
  wanted_is (bracket m p) l f = either f (wanted p m s) (each s (raised m l)) (wanted_is p m f) (raised_is m l f)

  pub round_wanted_lem : (p : Plan) (f : Fact) → Mem f (round_wanted p s) ↔ Wanted p (listed s) f
  round_wanted_lem p f =
      either f (wanted p.tree outermost s) (offer_wanted p.offers) (wanted_is p.tree outermost f) (offers_are p.offers f)
