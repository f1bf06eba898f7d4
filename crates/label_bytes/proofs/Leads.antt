-- What a first byte says: in a row of the table of a label's characters, the bytes behind it fit exactly if they fit the rest of the row; in no row,
-- none do. What stands where in the table is computed, so that `refl` shows it.
-- Assumes nothing.
use Rattle.std.proofs.Common.{ℕ, suc, ◌≤◌, ◌<◌, ◌≡◌, refl, ap, ◌∙◌, true, false, List, [], ◌∷◌, ◌++◌, take, drop, arith}
use borrow.Author.Tests.{le-leb}
use Rattle.label_bytes.specs.Characters.{Range, range, tail, table, is_in, fits, fits_one}
use Rattle.label_bytes.specs.Label.{is_shown}
use Rattle.label_bytes.proofs.Table.{outside, fits_none, fits_chosen}
use Rattle.label_bytes.proofs.Letters.{long_rows, letters, letter_table}

in_limits : (lowest highest first : ℕ) → lowest ≤ first → first ≤ highest → is_in (range lowest highest) first ≡ true
in_limits lowest highest first low high = rw (le-leb lowest first low, le-leb first highest high)

-- the row at a place: its first range, and the rest of it
abbrev IsRow : ℕ → Range → List Range → Type 0
IsRow place first row =
    (letters ≡ take place letters ++ ((first ∷ row) ∷ drop (suc place) letters))
    × (outside first (take place letters) ≡ true)
    × (outside first (drop (suc place) letters) ≡ true)

in_row : (place lowest highest first : ℕ) (row : List Range) (rest : List ℕ) → IsRow place (range lowest highest) row → lowest ≤ first → first ≤ highest
    → is_shown (first ∷ rest) ≡ fits row rest
in_row place lowest highest first row rest is low high =
    letter_table (first ∷ rest)
    ∙ ap (λ (rows : List (List Range)). fits_one rows (first ∷ rest)) is.0
    ∙ fits_chosen (take place letters) (drop (suc place) letters) (range lowest highest) row first rest is.1 is.2 (in_limits lowest highest first low high)

between : (lowest highest first : ℕ) (rest : List ℕ) → outside (range lowest highest) letters ≡ true → lowest ≤ first → first ≤ highest
    → is_shown (first ∷ rest) ≡ false
between lowest highest first rest e low high =
    letter_table (first ∷ rest) ∙ fits_none (range lowest highest) letters first rest e (in_limits lowest highest first low high)

-- ---- the rows, each by its lowest first byte, and what lies below, between and above them

module _ (first : ℕ) (rest : List ℕ) where
  pub row_20 : 0x20 ≤ first → first ≤ 0x7e → is_shown (first ∷ rest) ≡ fits [] rest
  unfolding table long_rows letters outside
  row_20 low high = in_row 0 0x20 0x7e first _ rest (refl, refl, refl) low high

  pub row_c2 : 0xc2 ≤ first → first ≤ 0xdf → is_shown (first ∷ rest) ≡ fits (tail ∷ []) rest
  unfolding table long_rows letters outside
  row_c2 low high = in_row 1 0xc2 0xdf first _ rest (refl, refl, refl) low high

  pub row_e0 : 0xe0 ≤ first → first ≤ 0xe0 → is_shown (first ∷ rest) ≡ fits (range 0xa0 0xbf ∷ tail ∷ []) rest
  unfolding table long_rows letters outside
  row_e0 low high = in_row 2 0xe0 0xe0 first _ rest (refl, refl, refl) low high

  pub row_e1 : 0xe1 ≤ first → first ≤ 0xec → is_shown (first ∷ rest) ≡ fits (tail ∷ tail ∷ []) rest
  unfolding table long_rows letters outside
  row_e1 low high = in_row 3 0xe1 0xec first _ rest (refl, refl, refl) low high

  pub row_ed : 0xed ≤ first → first ≤ 0xed → is_shown (first ∷ rest) ≡ fits (range 0x80 0x9f ∷ tail ∷ []) rest
  unfolding table long_rows letters outside
  row_ed low high = in_row 4 0xed 0xed first _ rest (refl, refl, refl) low high

  pub row_ee : 0xee ≤ first → first ≤ 0xef → is_shown (first ∷ rest) ≡ fits (tail ∷ tail ∷ []) rest
  unfolding table long_rows letters outside
  row_ee low high = in_row 5 0xee 0xef first _ rest (refl, refl, refl) low high

  pub row_f0 : 0xf0 ≤ first → first ≤ 0xf0 → is_shown (first ∷ rest) ≡ fits (range 0x90 0xbf ∷ tail ∷ tail ∷ []) rest
  unfolding table long_rows letters outside
  row_f0 low high = in_row 6 0xf0 0xf0 first _ rest (refl, refl, refl) low high

  pub row_f1 : 0xf1 ≤ first → first ≤ 0xf3 → is_shown (first ∷ rest) ≡ fits (tail ∷ tail ∷ tail ∷ []) rest
  unfolding table long_rows letters outside
  row_f1 low high = in_row 7 0xf1 0xf3 first _ rest (refl, refl, refl) low high

  pub row_f4 : 0xf4 ≤ first → first ≤ 0xf4 → is_shown (first ∷ rest) ≡ fits (range 0x80 0x8f ∷ tail ∷ tail ∷ []) rest
  unfolding table long_rows letters outside
  row_f4 low high = in_row 8 0xf4 0xf4 first _ rest (refl, refl, refl) low high

  pub below_rows : first < 0x20 → is_shown (first ∷ rest) ≡ false
  unfolding table long_rows letters outside
  below_rows high = between 0x00 0x1f first rest refl (omega arith) (omega arith)

  pub between_rows : 0x7e < first → first < 0xc2 → is_shown (first ∷ rest) ≡ false
  unfolding table long_rows letters outside
  between_rows low high = between 0x7f 0xc1 first rest refl (omega arith) (omega arith)

  pub above_rows : 0xf4 < first → first < 0x100 → is_shown (first ∷ rest) ≡ false
  unfolding table long_rows letters outside
  above_rows low high = between 0xf5 0xff first rest refl (omega arith) (omega arith)

pub ruleset rows = (row_20, row_c2, row_e0, row_e1, row_ed, row_ee, row_f0, row_f1, row_f4, below_rows, between_rows, above_rows)
