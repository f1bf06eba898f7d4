-- Lines as characters: how long one is, and the loop that puts one.
-- Assumes nothing.
use Prim.Native.Nat.{ℕ, ◌+◌, ◌*◌, ◌/◌, ◌%◌, ◌≤◌, ◌<◌}
use mathlib.Core.Path.{◌≡◌, refl, ap, subst, ◌∙◌}
use mathlib.Core.List.{List, [], ◌∷◌, ◌++◌, append_assoc}
use native.Mathlib.Numerals.{add-one}
use native.Mathlib.Omega.{arith}
use lib.ListN.{length, set, get_or, drop, length-drop, length-set, drop_of_length-le}
use lib.Seq.{drop-cons}
use Rattle.text.specs.Text.{line_feed}
use Rattle.putting.specs.Characters.{digit, hex_line, hex_lines}
use Rattle.putting.specs.Put.{Put}
use Rattle.putting.proofs.Putting.{Left, left_none, left_store}

pub line_length : (bytes : List ℕ) → length (hex_line bytes) ≡ 2 * length bytes + 1
unfolding hex_line
line_length [] = refl
line_length (b ∷ bs) = omega (arith, line_length bs)

-- what the search lacks where there is room for a line
pub ruleset line_sizes = (line_length, length-drop, length-set)

pub lines_append : (xs ys : List (List ℕ)) → hex_lines (xs ++ ys) ≡ hex_lines xs ++ hex_lines ys
unfolding hex_lines
lines_append [] ys = refl
lines_append (x ∷ xs) ys = ap (λ l. hex_line x ++ l) (lines_append xs ys) ∙ simp append_assoc

-- the line from its byte i on
line_from : (bytes : List ℕ) (i : ℕ) → i < length bytes
    → hex_line (drop i bytes) ≡ digit (get_or bytes i 0 / 16) ∷ digit (get_or bytes i 0 % 16) ∷ hex_line (drop (i + 1) bytes)
unfolding hex_line
line_from bytes i h = rw (add-one, drop-cons bytes i 0)

-- the loop that puts a line, by what is left of it behind i of its bytes
module _ {before : List ℕ} {at : ℕ} {xs buffer : List ℕ} {next : ℕ} (i : ℕ) (bytes : List ℕ) (l : Left before at xs buffer next (hex_line (drop i bytes))) where
  -- one byte more
  pub line_step : i < length bytes
      → Left before at xs (set (set buffer next (digit (get_or bytes i 0 / 16))) (next + 1) (digit (get_or bytes i 0 % 16))) (next + 2) (hex_line (drop (i + 1) bytes))
  line_step h =
      left_store (next + 2) (omega arith)
      (left_store (next + 1) (omega arith) (subst (Left before at xs buffer next) (line_from bytes i h) l))

  -- the line feed
  pub line_end_lem : length bytes ≤ i → Put before at xs (set buffer next line_feed) (next + 1)
  unfolding hex_line
  line_end_lem h =
      let last : Left before at xs buffer next (line_feed ∷ []) = subst (λ s. Left before at xs buffer next (hex_line s)) (drop_of_length-le bytes h) l in
      left_none (left_store (next + 1) (omega arith) last)
