-- An array with one value behind what it holds: how long it is, how it comes to be from an array of that value alone, and one more stored in it; and
-- the label in a frame, whose bytes are stored so. Assumes nothing.
use Prim.Native.Nat.{ℕ, suc, ◌+◌, ◌-◌, ◌≤◌, ◌<◌}
use mathlib.Core.Path.{◌≡◌, refl, sym, ap, ◌∙◌}
use mathlib.Core.List.{List, [], ◌∷◌, ◌++◌, append_assoc}
use mathlib.Core.HLevel.{is_prop→PathP}
use native.Mathlib.Bridge.{le_prop}
use native.Mathlib.Omega.{arith}
use lib.ListN.{length, take, drop, set, replicate, length-append, length-drop, length-replicate}
use lib.Seq.{take_all, set_at, length-take-le}
use Rattle.limits.specs.Limits.{longest_label}
use Rattle.lines.specs.declared.label.Label.{Label}
use Rattle.lines.specs.Labels.{label_of}
use Rattle.lines.specs.Values.{padded}
use Rattle.text.proofs.Lists.{drop_replicate}

module _ {A : Type 0} (n : ℕ) (d : A) (xs : List A) (fits : length xs ≤ n) where
  pub padded_length : length (padded n d xs) ≡ n
  unfolding padded
  padded_length = omega (arith, length-append xs (replicate (n - length xs) d), length-replicate (n - length xs) d)

  -- stored in its first places
  padded_front : xs ++ drop (length xs) (replicate n d) ≡ padded n d xs
  unfolding padded
  padded_front = ap (λ (l : List A). xs ++ l) (drop_replicate (length xs) n d)

-- one more, stored behind them
pub padded_more : {A : Type 0} (n : ℕ) (d : A) (xs : List A) (x : A) → length xs < n
    → set (padded n d xs) (length xs) x ≡ padded n d (xs ++ (x ∷ []))
unfolding padded
padded_more n d xs x h =
    let left = n - length (xs ++ (x ∷ [])) in
    let one : n - length xs ≡ suc left = omega (arith, length-append xs (x ∷ [])) in
    ap (λ (m : ℕ). set (xs ++ replicate m d) (length xs) x) one
    ∙ set_at xs d (replicate left d) x (length xs) refl
    ∙ sym (append_assoc xs (x ∷ []) (replicate left d))

-- ---- the label in a frame

-- two labels of one thing, with the same bytes, are equal
pub same_label : (a b : Label) → a.kind ≡ b.kind → a.number ≡ b.number → a.size ≡ b.size → a.bytes ≡ b.bytes → a ≡ b
same_label a b kind number size bytes = λ i. record {
  kind = kind i;
  number = number i;
  size = size i;
  bytes = bytes i;
  sized = is_prop→PathP (λ j. size j ≤ length (bytes j)) (λ j. le_prop) a.sized b.sized i;
}

-- its array is as long as a label may be
pub label_array : (frame : List ℕ) → length frame ≤ 3 + longest_label → length (label_of frame).bytes ≡ longest_label
label_array frame fits = padded_length longest_label 0 (drop 3 frame) (omega (arith, length-drop 3 frame))

-- which are laid in the first places of a blank one
pub label_laid : (frame : List ℕ) (size : ℕ) (front : List ℕ) → size ≤ longest_label → length frame ≡ 3 + size
    → front ≡ take (length (take {A = ℕ} size (replicate longest_label 0))) (drop 3 frame)
    → (size ≡ (label_of frame).size) × (front ++ drop size (replicate longest_label 0) ≡ (label_of frame).bytes)
label_laid frame size front fits long laid =
    let sized : size ≡ length (drop 3 frame) = omega (arith, length-drop 3 frame) in
    let room = length (take {A = ℕ} size (replicate longest_label 0)) in
    let whole : front ≡ drop 3 frame = laid ∙ take_all room (drop 3 frame) (omega (arith, length-take-le {A = ℕ} size (replicate longest_label 0) fits)) in
    (sized, rw (whole, sized) (padded_front longest_label 0 (drop 3 frame) (omega arith)))
