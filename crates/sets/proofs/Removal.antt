-- A member taken away: its digit is cleared, and the others stay.
-- Assumes nothing.
use mathlib.Core.Path.{◌≡◌, ◌∙◌}
use mathlib.Core.Logic.{◌≢◌}
use Prim.Native.Nat.{ℕ, ◌*◌, ◌%◌, ◌^◌, ◌<◌}
use native.Mathlib.Omega.{arith}
use lib.Bits.{bit_and}
use mir.Val.{bits}
use Rattle.std.specs.Int.{Width, bit_not}
use Rattle.std.proofs.lemmas.Nat.{and_le_l}
use Rattle.std.proofs.lemmas.Nat.Bits.{bit_at_clear_same, bit_at_clear_other}
use Rattle.sets.specs.Set.{bit, Has, Without}
use Rattle.sets.proofs.Bits.{zero_not_has}
use Rattle.sets.proofs.Members.{has_and}
use Rattle.sets.proofs.Width.{below}

-- `s & !(1 << c)` at the width w
pub without_cleared : (w : Width) (s c : ℕ) → s < 2 ^ bits w → c < bits w → Has s c → Without s c (bit_and s (bit_not w (1 * 2 ^ c % 2 ^ bits w)))
without_cleared w s c fits within h = record { has = λ k. grind (arith, gone, kept k, has_and s mask k); less = omega (arith, and_le_l s mask, differ) }
  where
    mask : ℕ
    mask = bit_not w (1 * 2 ^ c % 2 ^ bits w)

    gone : bit (bit_and s mask) c ≡ 0
    gone = bit_at_clear_same w s c within

    kept : (k : ℕ) → k ≢ c → Has s k → Has (bit_and s mask) k
    kept k other m = bit_at_clear_other w s c within k (below (bits w) s k fits m) other ∙ m

    differ : bit_and s mask ≢ s
    differ e = zero_not_has s c (rw e at gone) h
