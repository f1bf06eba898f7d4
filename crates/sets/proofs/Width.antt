-- A width: the sets below 2 ^ w are those whose members are below w, and how that is tested.
-- Assumes nothing.
use mathlib.Core.Path.{◌≡◌, ◌∙◌}
use mathlib.Core.Bool.{Bool}
use Prim.Native.Nat.{ℕ, zero, suc, ◌*◌, ◌/◌, ◌%◌, ◌^◌, ◌≤◌, ◌<◌}
use native.Mathlib.Nat.{div-eq_of_lt, pow-suc, le_of_suc-le-suc, not-suc-le-zero, one-mul}
use native.Mathlib.Omega.{arith}
use lib.Dec.{lit<, eqb}
use lib.Pow.{pow_pos, shl_exact}
use borrow.Author.Tests.{ltb-true, ltb-false}
use Rattle.std.proofs.lemmas.Nat.Bits.{bit_at-suc, bit_at_above}
use Rattle.sets.specs.Set.{Has, Narrow, is_narrow, Decides}
use Rattle.sets.proofs.Bits.{zero_not_has}
use Rattle.sets.proofs.Decide.{says_equal, decides_once}
use Rattle.sets.proofs.Minimum.{empty_zero}

pub below : (w s c : ℕ) → s < 2 ^ w → Has s c → c < w
below w s c b h =
    let past : w ≤ c → ⊥ = λ l. zero_not_has s c (bit_at_above s w c b l) h in
    omega arith

-- `1 << c` at the width w
pub shift_one : (w c : ℕ) → c < w → 1 * 2 ^ c % 2 ^ w ≡ 2 ^ c
shift_one w c h = shl_exact 1 c w (lit< tt) (omega arith) ∙ one-mul (2 ^ c)

-- ---- the test of a width

under : (w s : ℕ) → Narrow w s → s < 2 ^ w
under zero s h = let none = (empty_zero s).0 (λ c m. not-suc-le-zero (h c m)) in omega arith
under (suc w) s h =
    let half = under w (s / 2) (λ c m. le_of_suc-le-suc (h (suc c) (bit_at-suc s c ∙ m))) in
    let double = pow-suc 2 w in
    omega arith

-- the test tells whether every member is below the width
pub narrow_decides : (w s : ℕ) → Decides (is_narrow w s) (Narrow w s)
narrow_decides w s = record {
  yes = λ e c. below w s c (ltb-true s (2 ^ w) e);
  no = λ e h. let past = ltb-false s (2 ^ w) e in let short = under w s h in omega arith;
}

-- and any answer that decides it is the test's
pub narrow_told : (b : Bool) (w s : ℕ) → Decides b (Narrow w s) → is_narrow w s ≡ b
narrow_told b w s d = decides_once (is_narrow w s) b (narrow_decides w s) d

-- a set that fits a width fits every greater
pub narrow_past : (w v s : ℕ) → s < 2 ^ w → w ≤ v → Narrow v s
narrow_past w v s fits wider c h = let short = below w s c fits h in omega arith

-- a set fits a width where nothing is left of it behind
pub narrow_shifted : (w s : ℕ) → Decides (eqb (s / 2 ^ w) 0) (Narrow w s)
narrow_shifted w s = says_equal (s / 2 ^ w) 0 ((λ h. div-eq_of_lt (under w s h)), λ e c. below w s c (short e))
  where
    short : s / 2 ^ w ≡ 0 → s < 2 ^ w
    short e = grind (arith, pow_pos w)
