-- Laws of the table: what is added in two steps, or said in other words, and what was sent at one level more.
-- Assumes nothing.
use Prim.Native.Nat.{ℕ, ◌+◌}
use mathlib.Core.Path.{◌≡◌, subst}
use mathlib.Core.Logic.{◌↔◌, ◌⊎◌, inl, inr, ⊎_elim}
use native.Mathlib.Decide.{ℕ_discrete}
use native.Mathlib.Omega.{arith}
use Rattle.sets.specs.Set.{Has, Members}
use Rattle.sets.specs.Rows.{SetRow, Together}
use Rattle.solving.specs.Solutions.{Fact, Sets}
use Rattle.solving.specs.inner.Table.{outs_at, Sent, Adds}

-- ---- adding

pub adds_none : (t : SetRow) {W : Sets} → ((f : Fact) → W f → ⊥) → Adds t t W
adds_none t h = record { adds = λ f. (inl, ⊎_elim (λ x. x) (λ w. absurd (h f w))) }

pub adds_both : {a b c : SetRow} {X W U : Sets} → Adds a b X → Adds b c W → ((f : Fact) → U f ↔ (X f ⊎ W f)) → Adds a c U
adds_both v w e = record {
  adds = λ f. (
    (λ h. ⊎_elim (λ x. ⊎_elim inl (λ y. inr ((e f).1 (inl y))) ((v.adds f).0 x)) (λ y. inr ((e f).1 (inr y))) ((w.adds f).0 h)),
    (λ h. (w.adds f).1 (⊎_elim (λ x. inl ((v.adds f).1 (inl x))) (λ u. ⊎_elim (λ y. inl ((v.adds f).1 (inr y))) inr ((e f).0 u)) h)),
  );
}

pub adds_same : {a b : SetRow} {X U : Sets} → Adds a b X → ((f : Fact) → U f ↔ X f) → Adds a b U
adds_same v e = record {
  adds = λ f. (
    (λ h. ⊎_elim inl (λ y. inr ((e f).1 y)) ((v.adds f).0 h)),
    (λ h. (v.adds f).1 (⊎_elim inl (λ u. inr ((e f).0 u)) h)),
  );
}

-- ---- what has been sent, level by level

pub sent_more : (t : SetRow) (P : ℕ → Type 0) (m all here r : ℕ) → Members all (Sent t m P) → Members here (Together t (outs_at m) P)
    → Members r (λ o. Has all o ⊎ Has here o) → Members r (Sent t (m + 1) P)
sent_more t P m all here r a h both = record {
  has = λ o. (
    (λ g. ⊎_elim (λ x. let w = (a.has o).0 x in (w.0, omega (arith, w.1), w.2)) (λ x. (m, omega arith, (h.has o).0 x)) ((both.has o).0 g)),
    (λ w. (both.has o).1 (back o w (ℕ_discrete w.0 m))),
  );
}
  where
    back : (o : ℕ) (w : Sent t (m + 1) P o) → Dec (w.0 ≡ m) → Has all o ⊎ Has here o
    back o w (yes q) = inr ((h.has o).1 (subst (λ k. Together t (outs_at k) P o) q w.2))
    back o w (no n) = inl ((a.has o).1 (w.0, omega (arith, w.1), w.2))
