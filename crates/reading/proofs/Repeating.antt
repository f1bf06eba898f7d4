-- Labels compared with those before them: byte by byte, and label by label, each by what is left. Assumes nothing.
use Prim.Native.Nat.{ℕ, ◌+◌, ◌≤◌, ◌<◌}
use mathlib.Core.Path.{◌≡◌, refl, sym, ap, ◌∙◌}
use mathlib.Core.Bool.{true, false, ◌||◌, ◌&&◌}
use mathlib.Core.List.{List, [], ◌∷◌}
use native.Mathlib.Numerals.{add-one}
use lib.Dec.{eqb}
use lib.ListN.{length, get_or, drop, drop_of_length-le}
use lib.Pointwise.{pointwise}
use lib.Seq.{drop-cons}
use Rattle.lines.specs.declared.label.Label.{Label}
use Rattle.reading.specs.Plan.{same_bytes, is_same, is_repeated}

-- byte for byte, as `==` compares slices
pub bytes_same : (xs ys : List ℕ) → pointwise eqb xs ys ≡ same_bytes xs ys
unfolding same_bytes
bytes_same [] [] = refl
bytes_same [] (y ∷ ys) = refl
bytes_same (x ∷ xs) [] = refl
bytes_same (x ∷ xs) (y ∷ ys) = ap (λ b. eqb x y && b) (bytes_same xs ys)

-- byte by byte, where both have one
pub bytes_at_lem : (xs ys : List ℕ) (i : ℕ) → i < length xs → i < length ys
    → same_bytes (drop i xs) (drop i ys) ≡ (eqb (get_or xs i 0) (get_or ys i 0) && same_bytes (drop (i + 1) xs) (drop (i + 1) ys))
unfolding same_bytes
bytes_at_lem xs ys i h l = rw (drop-cons xs i 0 h, drop-cons ys i 0 l, add-one)

-- label by label
module _ (kind : ℕ) (bytes : List ℕ) (before : List Label) (i : ℕ) where
  module _ (other : Label) (h : i < length before) (found : other ≡ get_or before i other) where
    label_at : is_repeated kind bytes (drop i before) ≡ (is_same kind bytes other || is_repeated kind bytes (drop (i + 1) before))
    unfolding is_repeated
    label_at = rw (drop-cons before i other h, add-one, ← found)

    pub repeats_on : false ≡ is_same kind bytes other → is_repeated kind bytes (drop (i + 1) before) ≡ is_repeated kind bytes (drop i before)
    repeats_on n = sym (label_at ∙ rw (← n))

    pub repeats_here : true ≡ is_same kind bytes other → true ≡ is_repeated kind bytes (drop i before)
    repeats_here s = sym (label_at ∙ rw (← s))

  pub repeats_end : length before ≤ i → false ≡ is_repeated kind bytes (drop i before)
  unfolding is_repeated
  repeats_end h = rw (drop_of_length-le before h)
