-- The computed rounds are the rounds of the definition, and the computed answer is one that the contract admits: each round adds
-- just what is wanted, so a list of facts holds what `after` says; entered into arrays it holds the same. Assumes nothing.
use Prim.Native.Nat.{ℕ, zero, suc, ◌+◌, ◌<◌, ◌≤◌}
use mathlib.Core.Bool.{Bool, true, false, ◌&&◌}
use mathlib.Core.Path.{◌≡◌, refl, subst, subst⁻¹}
use mathlib.Core.List.{List, [], ◌∷◌}
use mathlib.Core.Logic.{◌↔◌, ◌⊎◌, inl, inr, ⊎_elim}
use native.Mathlib.Omega.{arith}
use Rattle.std.specs.Prelude.{Some, None}
use native.Mathlib.Decide.{ℕ_discrete}
use lib.Dec.{T, eqb, eqb→eq, eqb_refl}
use Rattle.sets.proofs.Listed.{Mem}
use Rattle.reading.specs.Plan.{Plan}
use Rattle.solving.specs.Solutions.{Fact, binder_set, in_set, out_set}
use Rattle.solving.specs.Rounds.{Wanted, Settled, after, Count}
use Rattle.solving.specs.inner.Compute.{round_wanted, same_fact, has_fact, add_all, all_in, Run, run}
use Rattle.solving.proofs.Acceptance.{wanted_grows}
use Rattle.solving.proofs.WantedLists.{listed, round_wanted_lem}

-- ---- tests on facts

-- the library's law of two tests speaks of `≡ true`, and here a test is `T`
pub both_is : (a b : Bool) → T (a && b) ↔ (T a × T b)
both_is true b = (λ t. (tt, t), λ w. w.1)
both_is false b = (absurd, λ w. w.0)

-- two numbers, and three
both_same : (a b c d : ℕ) → T (eqb a b && eqb c d) → (a ≡ b) × (c ≡ d)
both_same a b c d t = let w = (both_is (eqb a b) (eqb c d)).0 t in (eqb→eq a b w.0, eqb→eq c d w.1)

all_same : (a b c d e f : ℕ) → T (eqb a b && (eqb c d && eqb e f)) → (a ≡ b) × (c ≡ d) × (e ≡ f)
all_same a b c d e f t =
    let w = (both_is (eqb a b) (eqb c d && eqb e f)).0 t in
    let v = both_same c d e f w.1 in
    (eqb→eq a b w.0, v.0, v.1)

self : (a b c : ℕ) → T (eqb a a && (eqb b b && eqb c c))
self a b c = (both_is (eqb a a) (eqb b b && eqb c c)).1 (eqb_refl a, (both_is (eqb b b) (eqb c c)).1 (eqb_refl b, eqb_refl c))

same_self : (f : Fact) → T (same_fact f f)
same_self (binder_set b o) = (both_is (eqb b b) (eqb o o)).1 (eqb_refl b, eqb_refl o)
same_self (in_set l c o) = self l c o
same_self (out_set l c o) = self l c o

same_true : (f g : Fact) → T (same_fact f g) → f ≡ g
same_true (binder_set b o) (binder_set d u) t = let w = both_same b d o u t in let p = w.0 in let q = w.1 in cc
same_true (binder_set b o) (in_set m d u) t = absurd t
same_true (binder_set b o) (out_set m d u) t = absurd t
same_true (in_set l c o) (binder_set d u) t = absurd t
same_true (in_set l c o) (in_set m d u) t =
    let w = all_same l m c d o u t in let p = w.0 in let q = w.1 in let r = w.2 in cc
same_true (in_set l c o) (out_set m d u) t = absurd t
same_true (out_set l c o) (binder_set d u) t = absurd t
same_true (out_set l c o) (in_set m d u) t = absurd t
same_true (out_set l c o) (out_set m d u) t =
    let w = all_same l m c d o u t in let p = w.0 in let q = w.1 in let r = w.2 in cc

pub has_is : (f : Fact) (s : List Fact) → T (has_fact f s) ↔ Mem f s
has_is f [] = (absurd, absurd)
has_is f (g ∷ s) = go (same_fact f g) refl (has_is f s)
  where
    go : (b : Bool) → same_fact f g ≡ b → T (has_fact f s) ↔ Mem f s → T (elim b [ true ↦ true | false ↦ has_fact f s ]) ↔ ((f ≡ g) ⊎ Mem f s)
    go true e h = (λ _. inl (same_true f g (subst⁻¹ T e tt)), λ _. tt)
    go false e h = (λ t. inr (h.0 t), ⊎_elim (λ q. absurd (subst T e (subst (λ k. T (same_fact f k)) q (same_self f)))) h.1)

-- ---- one round

add_is : (f : Fact) (s ws : List Fact) → Mem f (add_all s ws) ↔ (Mem f s ⊎ Mem f ws)
add_is f s [] = (inl, ⊎_elim (λ z. z) absurd)
add_is f s (w ∷ ws) = go (has_fact w s) refl (add_is f s ws) (add_is f (w ∷ s) ws)
  where
    go : (b : Bool) → has_fact w s ≡ b → Mem f (add_all s ws) ↔ (Mem f s ⊎ Mem f ws)
        → Mem f (add_all (w ∷ s) ws) ↔ (((f ≡ w) ⊎ Mem f s) ⊎ Mem f ws)
        → Mem f (elim b [ true ↦ add_all s ws | false ↦ add_all (w ∷ s) ws ]) ↔ (Mem f s ⊎ ((f ≡ w) ⊎ Mem f ws))
    go true e h k = (
      (λ m. ⊎_elim inl (λ z. inr (inr z)) (h.0 m)),
      ⊎_elim (λ z. h.1 (inl z)) (⊎_elim (λ q. h.1 (inl (subst⁻¹ (λ g. Mem g s) q ((has_is w s).0 (subst⁻¹ T e tt))))) (λ z. h.1 (inr z))),
    )
    go false e h k = (
      (λ m. ⊎_elim (⊎_elim (λ q. inr (inl q)) inl) (λ z. inr (inr z)) (k.0 m)),
      ⊎_elim (λ z. k.1 (inl (inr z))) (⊎_elim (λ q. k.1 (inl (inl q))) (λ z. k.1 (inr z))),
    )

pub all_in_is : (ws s : List Fact) → T (all_in ws s) ↔ ((f : Fact) → Mem f ws → Mem f s)
all_in_is [] s = (λ _ f m. absurd m, λ _. tt)
all_in_is (w ∷ ws) s = go (has_fact w s) refl (all_in_is ws s)
  where
    go : (b : Bool) → has_fact w s ≡ b → T (all_in ws s) ↔ ((f : Fact) → Mem f ws → Mem f s)
        → T (elim b [ true ↦ all_in ws s | false ↦ false ]) ↔ ((f : Fact) → (f ≡ w) ⊎ Mem f ws → Mem f s)
    go true e h =
        (λ t f. ⊎_elim (λ q. subst⁻¹ (λ g. Mem g s) q ((has_is w s).0 (subst⁻¹ T e tt))) (h.0 t f), λ k. h.1 (λ f m. k f (inr m)))
    go false e h = (absurd, λ k. subst T e ((has_is w s).1 (k w (inl refl))))

-- ---- the rounds

-- where s holds what there is after n rounds
module _ (p : Plan) (n : ℕ) (s : List Fact) (e : (f : Fact) → after p n f ↔ Mem f s) where
  wanted_after : (f : Fact) → Wanted p (after p n) f ↔ Mem f (round_wanted p s)
  wanted_after f =
      let w = round_wanted_lem s p f in (
        (λ h. w.1 (wanted_grows (after p n) (listed s) (λ g. (e g).0) p f h)),
        (λ m. wanted_grows (listed s) (after p n) (λ g. (e g).1) p f (w.0 m)),
      )

  pub one_more : (f : Fact) → after p (suc n) f ↔ Mem f (add_all s (round_wanted p s))
  one_more f =
      let a = add_is f s (round_wanted p s) in (
        (λ h. a.1 (⊎_elim (λ z. inl ((e f).0 z)) (λ z. inr ((wanted_after f).0 z)) h)),
        (λ m. ⊎_elim (λ z. inl ((e f).1 z)) (λ z. inr ((wanted_after f).1 z)) (a.0 m)),
      )

  pub quiet_is : T (all_in (round_wanted p s) s) ↔ Settled p (after p n)
  quiet_is =
      let a = all_in_is (round_wanted p s) s in (
        (λ t f w. (e f).1 (a.0 t f ((wanted_after f).0 w))),
        (λ i. a.1 (λ f m. (e f).0 (i f ((wanted_after f).1 m)))),
      )

-- what a run says, where it may go up to `limit` rounds
abbrev pub RunIs : Plan → ℕ → Run → Type 0
RunIs p limit None = (j : ℕ) → j < limit → Settled p (after p j) → ⊥
RunIs p limit (Some (n, s)) = (c : Count p n) × (n ≤ limit) × ((f : Fact) → after p c.earlier f ↔ Mem f s)

pub run_is : (p : Plan) (left n limit : ℕ) (s : List Fact) → n + left ≡ limit → ((f : Fact) → after p n f ↔ Mem f s)
    → ((j : ℕ) → j < n → Settled p (after p j) → ⊥) → RunIs p limit (run p left n s)
unfolding run
run_is p zero n limit s e h b = λ j l. b j (omega arith)
run_is p (suc left) n limit s e h b = go (all_in (round_wanted p s) s) refl
    (λ busy. run_is p left (suc n) limit (add_all s (round_wanted p s)) (omega arith) (one_more p n s h) busy)
  where
    go : (q : Bool) → all_in (round_wanted p s) s ≡ q
        → (((j : ℕ) → j < suc n → Settled p (after p j) → ⊥) → RunIs p limit (run p left (suc n) (add_all s (round_wanted p s))))
        → RunIs p limit (elim q [ true ↦ Some (suc n, s) | false ↦ run p left (suc n) (add_all s (round_wanted p s)) ])
    go true q r = (record { earlier = n; is = refl; settled = (quiet_is p n s h).0 (subst⁻¹ T q tt); first = b }, omega arith, h)
    go false q r = r (λ j l i. split j l i (ℕ_discrete j n))
      where
        split : (j : ℕ) → j < suc n → Settled p (after p j) → Dec (j ≡ n) → ⊥
        split j l i (yes z) = subst T q ((quiet_is p n s h).1 (subst (λ k. Settled p (after p k)) z i))
        split j l i (no z) = b j (omega arith) i

pub whole_run : (p : Plan) (allowance : ℕ) → RunIs p allowance (run p allowance 0 [])
whole_run p allowance = run_is p allowance 0 allowance [] (omega arith) (λ f. (absurd, absurd)) (λ j l i. omega arith)
