-- Places in a row that has w sets for each level, side by side, over any w: those of different levels are apart, a place has one level and one
-- channel, and every place of n levels has them. Assumes nothing.
use Prim.Native.Nat.{ℕ, zero, suc, ◌+◌, ◌*◌, ◌/◌, ◌%◌, ◌≤◌, ◌<◌}
use mathlib.Core.Path.{◌≡◌, ap}
use native.Mathlib.Decide.{dec_lt}
use native.Mathlib.Nat.{mul-zero, suc-mul, mul-le-mul_right, div-lt_iff_lt-mul, mod-lt, div-add-mod'}
use native.Mathlib.Omega.{arith}
use lib.Arith.{digits_lt}

module _ (w : ℕ) where
  -- a lower level's sets end before
  pub below_level : (j l : ℕ) → j < l → j * w + w ≤ l * w
  below_level j l h =
      let more : suc j * w ≤ l * w = mul-le-mul_right {m = suc j} {n = l} w (omega arith) in
      omega (arith, suc-mul j w)

  pub same_level : (j l c d : ℕ) → c < w → d < w → j * w + c ≡ l * w + d → j ≡ l
  same_level j l c d c_fits d_fits e = go (dec_lt j l) (dec_lt l j)
    where
      go : Dec (j < l) → Dec (l < j) → j ≡ l
      go (yes h) b = absurd (omega (arith, below_level j l h))
      go (no a) (yes h) = absurd (omega (arith, below_level l j h))
      go (no a) (no b) = omega arith

  pub same_channel : (j l c d : ℕ) → c < w → d < w → j * w + c ≡ l * w + d → c ≡ d
  same_channel j l c d c_fits d_fits e = omega (arith, ap (λ k. k * w) (same_level j l c d c_fits d_fits e))

  -- a place within the sets of level l, from a start on, is at that level
  pub level_at : (start j l c : ℕ) → c < w → start + l * w ≤ start + j * w + c → start + j * w + c < start + l * w + w → j ≡ l
  level_at start j l c fits from to = go (dec_lt j l) (dec_lt l j)
    where
      go : Dec (j < l) → Dec (l < j) → j ≡ l
      go (yes h) b = absurd (omega (arith, below_level j l h))
      go (no a) (yes h) = absurd (omega (arith, below_level l j h))
      go (no a) (no b) = omega arith

  -- a level and a channel are at a place of n levels; here and below the library's laws of digits, in the words of levels and channels
  pub place_below : (n l c : ℕ) → l < n → c < w → l * w + c < n * w
  place_below n l c l_fits c_fits = digits_lt l_fits c_fits

  -- and every place of n levels has a level and a channel
  module _ (n i : ℕ) (fits : i < n * w) where
    some : 0 < w
    some = go w fits
      where
        go : (v : ℕ) → i < n * v → 0 < v
        go zero h = omega (arith, mul-zero n)
        go (suc v) h = omega arith

    pub level_of : i / w < n
    level_of = (div-lt_iff_lt-mul some).1 fits

    pub channel_of : i % w < w
    channel_of = mod-lt i some

    pub place_back : i / w * w + i % w ≡ i
    place_back = div-add-mod' i w

  -- places go by their levels first, and then by their channels
  module _ (i j : ℕ) where
    pub levels_in_turn : 0 < w → i ≤ j → i / w ≤ j / w
    levels_in_turn wide h =
        let before : j / w < i / w → ⊥ = λ l. let less = (div-lt_iff_lt-mul wide).0 l in omega (arith, div-add-mod' i w) in
        omega arith

    pub channels_in_turn : i ≤ j → i / w ≡ j / w → i % w ≤ j % w
    channels_in_turn h e = omega (arith, div-add-mod' i w, div-add-mod' j w, ap (λ k. k * w) e)

    pub same_place : i / w ≡ j / w → i % w ≡ j % w → i ≡ j
    same_place e f = omega (arith, div-add-mod' i w, div-add-mod' j w, ap (λ k. k * w) e)
