-- A binary digit is 0 or 1: a channel is a member or it is not.
-- Assumes nothing.
use mathlib.Core.Path.{◌≡◌}
use mathlib.Core.Logic.{◌⊎◌}
use Prim.Native.Nat.{ℕ}
use native.Mathlib.Omega.{arith}
use Rattle.std.proofs.lemmas.Nat.Bits.{bit_at-lt}
use Rattle.sets.specs.Set.{bit, Has}

pub has? : (s c : ℕ) → (bit s c ≡ 0) ⊎ Has s c
has? s c = grind (arith, bit_at-lt s c)

pub zero_not_has : (s c : ℕ) → bit s c ≡ 0 → Has s c → ⊥
zero_not_has s c e h = omega arith
