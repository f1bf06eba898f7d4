-- The members of the empty set, a union, an intersection and a singleton; and that sets with the same members are equal.
-- Assumes nothing.
use mathlib.Core.Path.{◌≡◌}
use mathlib.Core.Logic.{◌⊎◌, ◌↔◌, ◌≢◌}
use Prim.Native.Nat.{ℕ, ◌^◌}
use native.Mathlib.Omega.{arith}
use lib.Bits.{bit_and, bit_or}
use Rattle.std.proofs.lemmas.Nat.Bits.{bit_at-lt, bit_at-zero, bit_at_or, bit_at_and, bit_at-pow_same, bit_at-pow_other, same_from_bits}
use Rattle.sets.specs.Set.{none, Has, Subset}

-- ---- the empty set, union, intersection, singleton

pub has_none : (c : ℕ) → Has none c → ⊥
has_none c h = omega (arith, bit_at-zero c)

pub has_nonzero : (s c : ℕ) → Has s c → s ≢ 0
has_nonzero s c h e = has_none c (rw e at h)

pub has_or : (a b c : ℕ) → Has (bit_or a b) c ↔ (Has a c ⊎ Has b c)
has_or a b c = grind (arith, bit_at_or a b c, bit_at-lt a c, bit_at-lt b c)

pub has_and : (a b c : ℕ) → Has (bit_and a b) c ↔ (Has a c × Has b c)
has_and a b c = grind (arith, bit_at_and a b c, bit_at-lt a c, bit_at-lt b c)

pub has_single : (d c : ℕ) → Has (2 ^ d) c ↔ (c ≡ d)
has_single d c = grind (arith, bit_at-pow_same d, bit_at-pow_other d c)

-- ---- a set is its members

pub same_members : (a b : ℕ) → ((c : ℕ) → Has a c ↔ Has b c) → a ≡ b
same_members a b h = same_from_bits a b (λ c. grind (arith, h c, bit_at-lt a c, bit_at-lt b c))

pub subset_antisymm : (a b : ℕ) → Subset a b → Subset b a → a ≡ b
subset_antisymm a b p q = same_members a b (λ c. (p c, q c))
