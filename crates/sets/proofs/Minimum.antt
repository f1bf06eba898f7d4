-- The least member: every set but the empty one has it, by halving, and so has what the machine counts as trailing zeros.
-- Assumes nothing.
use mathlib.Core.Path.{◌≡◌, refl}
use mathlib.Core.Bool.{Bool, true, false, cond}
use mathlib.Core.Logic.{◌↔◌, ◌≢◌}
use Prim.Native.Nat.{ℕ, zero, suc, ◌/◌, ◌%◌, ◌^◌, ◌≤◌, ◌<◌}
use native.Mathlib.Omega.{arith}
use borrow.Author.Tests.{eqb-true, eqb-false}
use lib.Arith.{half_le}
use lib.Bits.{bit_and}
use lib.Dec.{eqb}
use mir.Val.{bits}
use Rattle.std.specs.Int.{Width, trailing_zeros}
use Rattle.std.proofs.lemmas.Nat.Bits.{bit_at-lt, bit_at-zero, bit_at_lowest, bit_at-suc, bit_at-trailing_zeros, same_from_bits}
use Rattle.sets.specs.Set.{Set, none, Has, Members, Empty, is_none, Meet, LeastMember, Decides}
use Rattle.sets.specs.inner.Compute.{lowest_within, lowest}
use Rattle.sets.proofs.Bits.{zero_not_has}
use Rattle.sets.proofs.Decide.{says_equal, decides_once}
use Rattle.sets.proofs.Members.{has_nonzero, has_and}

least_odd : (s : ℕ) → s % 2 ≡ 1 → LeastMember s 0
least_odd s e = record { has = omega (arith, bit_at_lowest s); least = λ k l h. omega arith }

least_even : (s c : ℕ) → s % 2 ≡ 0 → LeastMember (s / 2) c → LeastMember s (suc c)
least_even s c e l = record { has = omega (arith, bit_at-suc s c, l.has); least = under_it }
  where
    under_it : (k : ℕ) → k < suc c → Has s k → ⊥
    under_it zero b h = omega (arith, bit_at_lowest s)
    under_it (suc k) b h = l.least k (omega arith) (omega (arith, bit_at-suc s k))

-- what the checker computes
pub within_least : (left s : ℕ) → s ≤ left → s ≢ 0 → LeastMember s (lowest_within left s)
unfolding lowest_within
within_least zero s l n = absurd (n (omega arith))
within_least (suc left) s l n = go (eqb (s % 2) 1) refl (λ m. within_least left (s / 2) (half_le l) m)
  where
    go : (b : Bool) → eqb (s % 2) 1 ≡ b → (s / 2 ≢ 0 → LeastMember (s / 2) (lowest_within left (s / 2)))
        → LeastMember s (cond b 0 (suc (lowest_within left (s / 2))))
    go true t rest = least_odd s (eqb-true (s % 2) 1 t)
    go false t rest = let e = eqb-false (s % 2) 1 t in least_even s _ (omega arith) (rest (omega arith))

pub least_of_lem : (s : ℕ) → s ≢ 0 → (c : ℕ) × LeastMember s c
least_of_lem s n = (lowest s, within_least s s (omega arith) n)

-- and what `u32::trailing_zeros` and its kind compute, at the width w
pub trailing_least : (w : Width) (s : ℕ) → 0 < s → s < 2 ^ bits w → LeastMember s (trailing_zeros w s)
trailing_least w s p h = let t = bit_at-trailing_zeros w s p h in record { has = t.1; least = λ k l. zero_not_has s k (t.2 k l) }

-- ---- a set that is not zero has a member

pub empty_zero : (s : ℕ) → Empty s ↔ (s ≡ 0)
empty_zero s = (λ h. same_from_bits s 0 (λ c. omega (arith, h c, bit_at-lt s c, bit_at-zero c)), λ e c h. has_nonzero s c h e)

-- the test tells whether there is a member
pub none_decides : (s : Set) → Decides (is_none s) (Empty s)
none_decides s = says_equal s none (empty_zero s)

pub none_empty : (s : Set) → is_none s ≡ true → Empty s
none_empty s = (none_decides s).yes

-- and any answer that decides it is the test's
pub none_told : (b : Bool) (s : Set) → Decides b (Empty s) → is_none s ≡ b
none_told b s d = decides_once (is_none s) b (none_decides s) d

pub filled : (s : ℕ) → (Empty s → ⊥) → 0 < s
filled s h = let n : s ≢ 0 = λ e. h ((empty_zero s).1 e) in omega arith

pub meet_and : (a b : ℕ) → Meet a b ↔ (bit_and a b ≢ 0)
meet_and a b = (
  λ m. has_nonzero (bit_and a b) m.0 ((has_and a b m.0).1 (m.1, m.2)),
  λ n. let r = least_of_lem (bit_and a b) n in let h = (has_and a b r.0).0 r.1.has in (r.0, h.0, h.1),
)

pub members_none : (s : ℕ) (P : ℕ → Type 0) → Members s P → Empty s → (c : ℕ) → P c → ⊥
members_none s P m e c p = e c ((m.has c).1 p)

pub members_some : (s : ℕ) (P : ℕ → Type 0) → Members s P → (Empty s → ⊥) → (c : ℕ) × P c
members_some s P m h = let w = least_of_lem s (λ e. h ((empty_zero s).1 e)) in (w.0, (m.has w.0).0 w.1.has)
