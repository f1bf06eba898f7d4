-- Acceptable is: everything that a round wants is there. And what is wanted grows with the solution.
-- Both go clause by clause, down the tree; the offers ask the same of every solution. Assumes nothing.
use Prim.Native.Nat.{ℕ}
use mathlib.Core.Path.{◌≡◌, refl, subst, subst⁻¹}
use mathlib.Core.Logic.{◌↔◌, inl, inr, ⊎_elim}
use Rattle.limits.specs.Limits.{outermost}
use Rattle.lines.specs.declared.Marker.{Marker}
use Rattle.lines.specs.declared.Marker.TheVariants.{Channel, Binder}
use Rattle.reading.specs.Plan.{Plan}
use Rattle.reading.specs.Tree.{Tree, nil, silent, send, receive, sum, parallel, restriction, match, replication, bracket}
use Rattle.solving.specs.Solutions.{Fact, binder_set, in_set, out_set, Sets, SetOf, Contained}
use Rattle.solving.specs.Clauses.{Some, Heard, Meets, Holds, IsOffered, Acceptable}
use Rattle.solving.specs.Rounds.{SendWants, ReceiveWants, BracketWants, Wants, OfferWants, Wanted, Settled}

-- ---- acceptable is: everything wanted is there

-- everything that the walk from a node wants is there
abbrev Filled : Tree → ℕ → Sets → Type 0
Filled p l s = (f : Fact) → Wants p l s f → s f

filled : (p : Tree) (l : ℕ) (s : Sets) → Holds p l s → Filled p l s
filled nil l s a f w = absurd w
filled (silent p) l s a f w = filled p l s a f w
filled (restriction x c p) l s a f w = filled p l s a f w
filled (replication p) l s a f w = filled p l s a f w
filled (sum p q) l s a f w = ⊎_elim (filled p l s a.0 f) (filled q l s a.1 f) w
filled (parallel p q) l s a f w = ⊎_elim (filled p l s a.0 f) (filled q l s a.1 f) w
filled (send x y p) l s a f w = let h = a w.0 in ⊎_elim (filled p l s h.0 f) (go f h.1) w.1
  where
    go : (f : Fact) → ((c o : ℕ) → SetOf s x c → SetOf s y o → s (out_set l c o)) → SendWants s x y l f → s f
    go (binder_set b o) k v = absurd v
    go (in_set m c o) k v = absurd v
    go (out_set m c o) k v = subst⁻¹ (λ n. s (out_set n c o)) v.0 (k c o v.1 v.2)
filled (receive x y b p) l s a f w = let h = a w.0 in ⊎_elim (filled p l s h.0 f) (go f h.1 h.2) w.1
  where
    go : (f : Fact) → ((c : ℕ) → SetOf s x c → (m o : ℕ) → s (out_set m c o) → s (in_set l c o))
        → ((c : ℕ) → SetOf s x c → (o : ℕ) → s (in_set l c o) → s (binder_set b o)) → ReceiveWants s x b l f → s f
    go (binder_set d o) k j v = subst⁻¹ (λ n. s (binder_set n o)) v.0 (j v.1.0 v.1.1 o v.1.2)
    go (in_set m c o) k j v = subst⁻¹ (λ n. s (in_set n c o)) v.0 (k c v.1 v.2.0 o v.2.1)
    go (out_set m c o) k j v = absurd v
filled (match x y p) l s a f w = filled p l s (a w.0) f w.1
filled (bracket m p) l s a f w = ⊎_elim (filled p m s a.0 f) (go f) w
  where
    go : (f : Fact) → BracketWants s m l f → s f
    go (binder_set b o) v = absurd v
    go (in_set j c o) v = subst⁻¹ (λ n. s (in_set n c o)) v.0 (a.1 c o v.1)
    go (out_set j c o) v = subst⁻¹ (λ n. s (out_set n c o)) v.0 (a.2 c o v.1)

holding : (p : Tree) (l : ℕ) (s : Sets) → Filled p l s → Holds p l s
holding nil l s k = tt
holding (silent p) l s k = holding p l s k
holding (restriction x c p) l s k = holding p l s k
holding (replication p) l s k = holding p l s k
holding (sum p q) l s k = (holding p l s (λ f w. k f (inl w)), holding q l s (λ f w. k f (inr w)))
holding (parallel p q) l s k = (holding p l s (λ f w. k f (inl w)), holding q l s (λ f w. k f (inr w)))
holding (send x y p) l s k = λ h. (
  holding p l s (λ f w. k f (h, inl w)),
  λ c o hc ho. k (out_set l c o) (h, inr (refl, hc, ho)),
)
holding (receive x y b p) l s k = λ h. (
  holding p l s (λ f w. k f (h, inl w)),
  (λ c hc m o ho. k (in_set l c o) (h, inr (refl, hc, (m, ho)))),
  (λ c hc o ho. k (binder_set b o) (h, inr (refl, (c, hc, ho)))),
)
holding (match x y p) l s k = λ h. holding p l s (λ f w. k f (h, w))
holding (bracket m p) l s k = (
  holding p m s (λ f w. k f (inl w)),
  (λ c o h. k (in_set l c o) (inr (refl, h))),
  (λ c o h. k (out_set l c o) (inr (refl, h))),
)

offered : (p : Plan) (s : Sets) → Acceptable p s → (f : Fact) → OfferWants p.offers f → s f
offered p s a (binder_set b o) w = absurd w
offered p s a (in_set m c o) w = absurd w
offered p s a (out_set m c o) w = subst⁻¹ (λ n. s (out_set n c o)) w.0 (a.offers c o w.1)

pub acceptable_iff : (p : Plan) (s : Sets) → Acceptable p s ↔ Settled p s
acceptable_iff p s = (
  (λ a f. ⊎_elim (filled p.tree outermost s a.root f) (offered p s a f)),
  (λ k. record {
    root = holding p.tree outermost s (λ f w. k f (inl w));
    offers = λ c o h. k (out_set outermost c o) (inr (refl, h));
  }),
)

-- what is acceptable with more offers is acceptable with fewer
pub fewer_offers : (p q : Plan) → q.tree ≡ p.tree → ((c o : ℕ) → IsOffered p.offers c o → IsOffered q.offers c o) → (s : Sets)
    → Acceptable q s → Acceptable p s
fewer_offers p q same fewer s a = record {
  root = subst (λ (t : Tree). Holds t outermost s) same a.root;
  offers = λ c o w. a.offers c o (fewer c o w);
}

-- ---- what is wanted grows with the solution

module _ (s t : Sets) (h : Contained s t) where
  set_grows : (x : Marker) (o : ℕ) → SetOf s x o → SetOf t x o
  set_grows (Channel c) o e = e
  set_grows (Binder b) o e = h (binder_set b o) e

  some_grows : (x : Marker) → Some s x → Some t x
  some_grows x e = (e.0, set_grows x e.0 e.1)

  heard_grows : (x : Marker) → Heard s x → Heard t x
  heard_grows x e = (e.0, set_grows x e.0 e.1, (e.2.0, e.2.1, h (out_set e.2.0 e.0 e.2.1) e.2.2))

  meets_grows : (x y : Marker) → Meets s x y → Meets t x y
  meets_grows x y (inl e) = inl (e.0, set_grows x e.0 e.1, set_grows y e.0 e.2)
  meets_grows x y (inr e) = inr e

  send_grows : (x y : Marker) (l : ℕ) (f : Fact) → SendWants s x y l f → SendWants t x y l f
  send_grows x y l (binder_set b o) v = v
  send_grows x y l (in_set m c o) v = v
  send_grows x y l (out_set m c o) v = (v.0, set_grows x c v.1, set_grows y o v.2)

  receive_grows : (x : Marker) (b l : ℕ) (f : Fact) → ReceiveWants s x b l f → ReceiveWants t x b l f
  receive_grows x b l (binder_set d o) v =
      (v.0, (v.1.0, set_grows x v.1.0 v.1.1, h (in_set l v.1.0 o) v.1.2))
  receive_grows x b l (in_set m c o) v = (v.0, set_grows x c v.1, (v.2.0, h (out_set v.2.0 c o) v.2.1))
  receive_grows x b l (out_set m c o) v = v

  bracket_grows : (m l : ℕ) (f : Fact) → BracketWants s m l f → BracketWants t m l f
  bracket_grows m l (binder_set b o) v = v
  bracket_grows m l (in_set j c o) v = (v.0, h (in_set m c o) v.1)
  bracket_grows m l (out_set j c o) v = (v.0, h (out_set m c o) v.1)

  wants_grows : (p : Tree) (l : ℕ) (f : Fact) → Wants p l s f → Wants p l t f
  wants_grows nil l f w = w
  wants_grows (silent p) l f w = wants_grows p l f w
  wants_grows (restriction x c p) l f w = wants_grows p l f w
  wants_grows (replication p) l f w = wants_grows p l f w
  wants_grows (sum p q) l f w = ⊎_elim (λ v. inl (wants_grows p l f v)) (λ v. inr (wants_grows q l f v)) w
  wants_grows (parallel p q) l f w = ⊎_elim (λ v. inl (wants_grows p l f v)) (λ v. inr (wants_grows q l f v)) w
  wants_grows (send x y p) l f w = (
    (some_grows x w.0.0, some_grows y w.0.1),
    ⊎_elim (λ v. inl (wants_grows p l f v)) (λ v. inr (send_grows x y l f v)) w.1,
  )
  wants_grows (receive x y b p) l f w =
      (heard_grows x w.0, ⊎_elim (λ v. inl (wants_grows p l f v)) (λ v. inr (receive_grows x b l f v)) w.1)
  wants_grows (match x y p) l f w = (meets_grows x y w.0, wants_grows p l f w.1)
  wants_grows (bracket m p) l f w = ⊎_elim (λ v. inl (wants_grows p m f v)) (λ v. inr (bracket_grows m l f v)) w

  pub wanted_grows : (p : Plan) (f : Fact) → Wanted p s f → Wanted p t f
  wanted_grows p f = ⊎_elim (λ w. inl (wants_grows p.tree outermost f w)) inr
