-- The set of four bytes is written as just these: what is read as a set and what is written of one are the same four bytes. And it fits a width where
-- the set of each byte does. Assumes nothing.
use Prim.Native.Nat.{ℕ, zero, suc, ◌+◌, ◌-◌, ◌*◌, ◌/◌, ◌%◌, ◌^◌, ◌≤◌, ◌<◌}
use mathlib.Core.List.{[], ◌∷◌}
use mathlib.Core.Path.{◌≡◌, ap, ◌∙◌}
use native.Mathlib.Nat.{zero-mul, suc-mul, mul-le-mul_right, lt_of_mul-lt-mul_right}
use native.Mathlib.Decide.{dec_le}
use native.Mathlib.Omega.{arith}
use lib.Pow.{pow-add, pow_mono}
use Rattle.sets.specs.Set.{set_bytes, set_of_bytes}

pub bytes_back : (a b c d : ℕ) → a < 0x100 → b < 0x100 → c < 0x100 → d < 0x100 → set_bytes (set_of_bytes a b c d) ≡ a ∷ b ∷ c ∷ d ∷ []
bytes_back a b c d a_byte b_byte c_byte d_byte =
    let s = set_of_bytes a b c d in
    let first : s / 0x1000000 % 0x100 ≡ a = omega arith in
    let second : s / 0x10000 % 0x100 ≡ b = omega arith in
    let third : s / 0x100 % 0x100 ≡ c = omega arith in
    let fourth : s % 0x100 ≡ d = omega arith in
    λ i. first i ∷ second i ∷ third i ∷ fourth i ∷ []

-- ---- a width

-- a number above, and one of n binary digits below it: together they fit a width where each does
above : (n w high low : ℕ) → low < 2 ^ n → high * 2 ^ n < 2 ^ w → low < 2 ^ w → high * 2 ^ n + low < 2 ^ w
above n w zero low digits fits h = rw (zero-mul (2 ^ n)) (omega arith)
above n w (suc high) low digits fits h = go (dec_le n w)
  where
    next : suc high * 2 ^ n ≡ high * 2 ^ n + 2 ^ n
    next = suc-mul high (2 ^ n)

    go : Dec (n ≤ w) → suc high * 2 ^ n + low < 2 ^ w
    go (yes within) =
        let parts : 2 ^ w ≡ 2 ^ (w - n) * 2 ^ n = let e : w ≡ w - n + n = omega arith in ap (λ (k : ℕ). 2 ^ k) e ∙ pow-add 2 (w - n) n in
        let less = lt_of_mul-lt-mul_right (2 ^ n) {m = suc high} {n = 2 ^ (w - n)} (rw parts at fits) in
        let more = mul-le-mul_right {m = suc (suc high)} {n = 2 ^ (w - n)} (2 ^ n) less in
        let one = suc-mul (suc high) (2 ^ n) in
        omega arith
    go (no past) = let most = pow_mono {i = w} {j = n} (omega arith) in absurd (omega arith)

pub bytes_narrow : (w a b c d : ℕ) → b < 0x100 → c < 0x100 → d < 0x100
    → set_of_bytes a 0 0 0 < 2 ^ w → set_of_bytes 0 b 0 0 < 2 ^ w → set_of_bytes 0 0 c 0 < 2 ^ w → set_of_bytes 0 0 0 d < 2 ^ w → set_of_bytes a b c d < 2 ^ w
bytes_narrow w a b c d b_byte c_byte d_byte first second third fourth =
    let two = above 24 w a (b * 0x10000) (omega arith) (omega arith) (omega arith) in
    let three = above 16 w (a * 0x100 + b) (c * 0x100) (omega arith) (omega arith) (omega arith) in
    let four = above 8 w (a * 0x10000 + b * 0x100 + c) d (omega arith) (omega arith) (omega arith) in
    omega arith
