-- Rows of sets as lines: how long they are, by how many sets are not empty, and the loop that puts a row, by the sets from a place on.
-- Assumes nothing.
use Prim.Native.Nat.{ℕ, ◌+◌, ◌*◌, ◌≤◌, ◌<◌}
use mathlib.Core.Bool.{Bool, true, false, cond, not}
use mathlib.Core.Path.{◌≡◌, ap, subst, ◌∙◌}
use mathlib.Core.List.{List, [], ◌∷◌, ◌++◌, append-nil}
use native.Mathlib.Numerals.{add-one}
use native.Mathlib.Omega.{arith}
use native.Mathlib.Nat.{mul-add}
use lib.ListN.{length, drop, length-append, drop_of_length-le}
use lib.Seq.{drop-cons}
use Rattle.std.proofs.lemmas.List.Sums.{sum_by-cons}
use Rattle.sets.specs.Set.{Set, none, is_none, set_bytes}
use Rattle.sets.specs.Rows.{SetRow, set_at}
use Rattle.putting.specs.Characters.{hex_line, hex_lines}
use Rattle.sheet.specs.Sheet.{set_line, set_lines}
use Rattle.putting.specs.Put.{Room, Put}
use Rattle.sheet.specs.inner.Working.{filled_in}
use Rattle.putting.proofs.Putting.{Left, left_none, left_put, left_room_first}
use Rattle.putting.proofs.Characters.{line_length, lines_append}

-- ---- a row's lines

-- the line of a set that is not empty
pub set_line_lem : (name : List ℕ) (s : Set) → is_none s ≡ false → hex_lines (set_line name s) ≡ hex_line (name ++ set_bytes s)
unfolding hex_lines
set_line_lem name s n = simp n (append-nil (hex_line (name ++ set_bytes s)))

-- an empty set has none
pub set_none : (name : List ℕ) (s : Set) → is_none s ≡ true → hex_lines (set_line name s) ≡ []
unfolding hex_lines
set_none name s e = simp e

module _ (name : ℕ → List ℕ) where
  -- from a place on
  pub lines_from : (row : SetRow) (i : ℕ) → i < length row
      → hex_lines (set_lines name i (drop i row)) ≡ hex_lines (set_line (name i) (set_at row i)) ++ hex_lines (set_lines name (i + 1) (drop (i + 1) row))
  unfolding set_lines
  lines_from row i h =
      let cons : drop i row ≡ set_at row i ∷ drop (i + 1) row = rw (add-one, drop-cons row i none) in
      ap (λ l. hex_lines (set_lines name i l)) cons ∙ lines_append (set_line (name i) (set_at row i)) (set_lines name (i + 1) (drop (i + 1) row))

  pub lines_end : (row : SetRow) (i : ℕ) → length row ≤ i → hex_lines (set_lines name i (drop i row)) ≡ []
  unfolding set_lines hex_lines
  lines_end row i h = rw (drop_of_length-le row h)

  -- where every name makes a line of so many characters, each set that is not empty has one
  module _ (size : ℕ) (named : (i : ℕ) → 2 * length (name i) + 9 ≡ size) where
    line_size : (i s : ℕ) → length (hex_lines (set_line (name i) s)) ≡ size * cond (not (is_none s)) 1 0
    unfolding hex_lines
    line_size i s = go (is_none s)
      where
        go : (b : Bool) → length (hex_lines (cond b [] ((name i ++ set_bytes s) ∷ []))) ≡ size * cond (not b) 1 0
        go true = omega arith
        go false =
            let line = line_length (name i ++ set_bytes s) in
            let bytes = length-append (name i) (set_bytes s) in
            let whole = length-append (hex_line (name i ++ set_bytes s)) [] in
            omega (arith, named i)

    pub lines_size : (i : ℕ) (row : SetRow) → length (hex_lines (set_lines name i row)) ≡ size * filled_in row
    unfolding set_lines hex_lines
    lines_size i [] = omega arith
    lines_size i (s ∷ ss) =
        let here = set_line (name i) s in
        let later = set_lines name (i + 1) ss in
        let one : ℕ = cond (not (is_none s)) 1 0 in
        let count = sum_by-cons (λ (set : Set). cond (not (is_none set)) 1 0) s ss in
        let counted : size * filled_in (s ∷ ss) ≡ size * one + size * filled_in ss = ap (λ n. size * n) count ∙ mul-add size one (filled_in ss) in
        omega (arith, ap length (lines_append here later), length-append (hex_lines here) (hex_lines later), line_size i s, lines_size (i + 1) ss)

-- ---- the loop that puts a row

module _ {before : List ℕ} {at : ℕ} {xs buffer : List ℕ} {next : ℕ} (name : ℕ → List ℕ) (place : ℕ) (row : SetRow)
    (l : Left before at xs buffer next (hex_lines (set_lines name place (drop place row)))) where
  -- the set that stands at the place
  module _ (h : place < length row) where
    first_left : Left before at xs buffer next
        (hex_lines (set_line (name place) (set_at row place)) ++ hex_lines (set_lines name (place + 1) (drop (place + 1) row)))
    first_left = subst (Left before at xs buffer next) (lines_from name row place h) l

    pub row_room : Room before at xs → Room buffer next (hex_lines (set_line (name place) (set_at row place)))
    row_room r = left_room_first _ _ r first_left

    pub row_step : {after : List ℕ} {behind : ℕ} → Put buffer next (hex_lines (set_line (name place) (set_at row place))) after behind
        → Left before at xs after behind (hex_lines (set_lines name (place + 1) (drop (place + 1) row)))
    row_step p = left_put _ _ first_left p

  pub row_end : length row ≤ place → Put before at xs buffer next
  row_end h = left_none (subst (Left before at xs buffer next) (lines_end name row place h) l)
