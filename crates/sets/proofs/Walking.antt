-- Walks over the members of a set: what is done so far, and what is to be done at the members that are left, are always the same whole.
-- Assumes nothing.
use mathlib.Core.Path.{◌≡◌, subst}
use mathlib.Core.Logic.{◌↔◌, ◌⊎◌, inl, inr, ⊎_elim}
use Prim.Native.Nat.{ℕ}
use native.Mathlib.Omega.{arith}
use Rattle.sets.specs.Set.{Has, LeastMember, Without}
use Rattle.sets.specs.Rows.{SetRow, From, Together}

-- D is done, L is left, W is the whole: a turn does X, which makes N of D and leaves R of L
pub turned : {D N X L R W : Type 0} → N ↔ (D ⊎ X) → L ↔ (R ⊎ X) → (D ⊎ L) ↔ W → (N ⊎ R) ↔ W
turned n l w = (
  ⊎_elim (λ a. ⊎_elim (λ d. w.0 (inl d)) (λ x. w.0 (inr (l.1 (inr x)))) (n.0 a)) (λ r. w.0 (inr (l.1 (inl r)))),
  (λ a. ⊎_elim (λ d. inl (n.1 (inl d))) (λ b. ⊎_elim inr (λ x. inl (n.1 (inr x))) (l.0 b)) (w.1 a)),
)

-- the members of s, of which the least, c, is taken, so that r is left
module _ {s c r : ℕ} (l : LeastMember s c) (w : Without s c r) where
  left_more : (k : ℕ) → Has s k ↔ (Has r k ⊎ (k ≡ c))
  left_more k = grind (arith, w.has k, l.has)

  pub together_more : (row : SetRow) (start o : ℕ) → Together row start (Has s) o ↔ (Together row start (Has r) o ⊎ From row start c o)
  together_more row start o = (
    (λ v. ⊎_elim (λ h. inl (v.0, h, v.2)) (λ e. inr (subst (λ k. From row start k o) e v.2)) ((left_more v.0).0 v.1)),
    ⊎_elim (λ v. (v.0, (left_more v.0).1 (inl v.1), v.2)) (λ h. (c, l.has, h)),
  )
