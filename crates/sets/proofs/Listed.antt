-- The computed list of a set's members holds just these: digit by digit, the lowest first. Assumes nothing.
use Prim.Native.Nat.{ℕ, zero, suc, ◌+◌, ◌/◌, ◌%◌, ◌≤◌}
use mathlib.Core.Bool.{Bool, true, false, cond}
use mathlib.Core.List.{List, [], ◌∷◌}
use mathlib.Core.Path.{◌≡◌, refl, sym, subst, ◌∙◌}
use mathlib.Core.Logic.{◌↔◌, ◌⊎◌, inl, inr, ⊎_elim}
use native.Mathlib.Omega.{arith}
use borrow.Author.Tests.{eqb-true, eqb-false}
use lib.Arith.{half_le}
use lib.Dec.{eqb}
use Rattle.std.proofs.lemmas.Nat.Bits.{bit_at_lowest, bit_at-suc}
use Rattle.sets.specs.Set.{Has, is_none}
use Rattle.sets.specs.inner.Compute.{list_within, list_of}
use Rattle.sets.proofs.Members.{has_none}

-- a is one of a list
abbrev pub Mem : {A : Type 0} → A → List A → Type 0
Mem a [] = ⊥
Mem a (x ∷ xs) = (a ≡ x) ⊎ Mem a xs

-- o stands for a member of s whose lowest digit counts for `first`
abbrev Counts : ℕ → ℕ → ℕ → Type 0
Counts first s o = (k : ℕ) × (o ≡ first + k) × Has s k

no_counts : (first s o : ℕ) → s ≡ 0 → Counts first s o → ⊥
no_counts first s o e w = has_none w.0 (subst (λ t. Has t w.0) e w.2)

-- a member of the half is one of s, one digit further
half_counts : (first s o : ℕ) → Counts (suc first) (s / 2) o → Counts first s o
half_counts first s o w = (suc w.0, omega (arith, w.1), bit_at-suc s w.0 ∙ w.2)

-- the members of s by those of its half, where the lowest digit is a member and where it is not
odd_counts : (first s o : ℕ) → s % 2 ≡ 1 → Counts first s o ↔ ((o ≡ first) ⊎ Counts (suc first) (s / 2) o)
odd_counts first s o odd = (there, ⊎_elim lowest (half_counts first s o))
  where
    lowest : o ≡ first → Counts first s o
    lowest e = (0, omega arith, bit_at_lowest s ∙ odd)

    there : Counts first s o → (o ≡ first) ⊎ Counts (suc first) (s / 2) o
    there (zero, e, h) = inl (omega arith)
    there (suc k, e, h) = inr (k, omega arith, sym (bit_at-suc s k) ∙ h)

even_counts : (first s o : ℕ) → (s % 2 ≡ 1 → ⊥) → Counts first s o ↔ Counts (suc first) (s / 2) o
even_counts first s o even = (there, half_counts first s o)
  where
    there : Counts first s o → Counts (suc first) (s / 2) o
    there (zero, e, h) = absurd (even (sym (bit_at_lowest s) ∙ h))
    there (suc k, e, h) = (k, omega arith, sym (bit_at-suc s k) ∙ h)

within_listed : (left first s o : ℕ) → s ≤ left → Mem o (list_within left first s) ↔ Counts first s o
unfolding list_within
within_listed zero first s o l = (absurd, no_counts first s o (omega arith))
within_listed (suc left) first s o l = go (is_none s) (eqb (s % 2) 1) refl refl (within_listed left (suc first) (s / 2) o (half_le l))
  where
    later : List ℕ
    later = list_within left (suc first) (s / 2)

    go : (none odd : Bool) → is_none s ≡ none → eqb (s % 2) 1 ≡ odd → Mem o later ↔ Counts (suc first) (s / 2) o
        → Mem o (cond none [] (cond odd (first ∷ later) later)) ↔ Counts first s o
    go true odd e q rest = (absurd, no_counts first s o (eqb-true s 0 e))
    go false true e q rest =
        let w = odd_counts first s o (eqb-true (s % 2) 1 q) in
        ((λ m. w.1 (⊎_elim inl (λ x. inr (rest.0 x)) m)), λ c. ⊎_elim inl (λ x. inr (rest.1 x)) (w.0 c))
    go false false e q rest =
        let w = even_counts first s o (eqb-false (s % 2) 1 q) in
        ((λ m. w.1 (rest.0 m)), λ c. rest.1 (w.0 c))

pub listed_members : (s o : ℕ) → Mem o (list_of s) ↔ Has s o
listed_members s o =
    let w = within_listed s 0 s o (omega arith) in (
      (λ m. let c = w.0 m in subst (Has s) (let e : c.0 ≡ o = omega (arith, c.1) in e) c.2),
      (λ h. w.1 (o, omega arith, h)),
    )
