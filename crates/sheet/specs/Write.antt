-- Document 01, refusal 15 and what the sheet operation returns and leaves in the buffer; and a whole sheet, in an array of its own. Which sheet is
-- meant is a parameter: `IsSheet text allowance sheet` says that a sheet is that of a text within an allowance of rounds.
-- Assumes nothing.
use Rattle.std.specs.Prelude.{ℕ, ◌<◌, ◌≤◌, ◌≡◌, List, [], ◌∷◌, ◌++◌, length, drop, take, get_or, Result, Ok, Err}
use Rattle.lines.specs.Values.{padded}
use Rattle.sheet.specs.declared.made.Sheet.{Sheet}
use Rattle.sheet.specs.declared.TooShort.{TooShort}

-- what writing a sheet returns
abbrev pub Written : Type 0
Written = Result ℕ TooShort

-- the number and the length that each outcome returns: 0 and the sheet's length; 15 and the length needed
abbrev pub values_of : Written → List ℕ
values_of (Ok size) = 0 ∷ size ∷ []
values_of (Err short) = 15 ∷ short.needed ∷ []

-- the length, which stands behind the number in both
abbrev pub length_in : Written → ℕ
length_in written = get_or (values_of written) 1 0

-- what is returned, and what the buffer holds afterwards, by the sheet and what the buffer held before
pub record Wrote (sheet before : List ℕ) (returned : Written) (after : List ℕ) : Type 0 where
  -- the sheet is longer than the lent buffer: the length needed, and the buffer is unchanged
  pub longer : length before < length sheet → (values_of returned ≡ 15 ∷ length sheet ∷ []) × (after ≡ before)
  -- otherwise the sheet's length, the sheet from the buffer's start, and every byte past it stays
  pub otherwise : length sheet ≤ length before → (values_of returned ≡ 0 ∷ length sheet ∷ []) × (after ≡ sheet ++ drop (length sheet) before)

-- the same, by the text and the allowance of rounds
pub record Writes (IsSheet : List ℕ → ℕ → List ℕ → Type 0) (text : List ℕ) (allowance : ℕ) (before : List ℕ) (returned : Written) (after : List ℕ) : Type 0 where
  pub sheet : List ℕ
  pub of_text : IsSheet text allowance sheet
  pub wrote : Wrote sheet before returned after

-- the bytes that suffice for every sheet
abbrev pub longest_sheet : ℕ
longest_sheet = 8128

-- a sheet by itself, with zeros behind it
pub record Fills (sheet : List ℕ) (r : Sheet) : Type 0 where
  pub size : r.size ≡ length sheet
  pub bytes : r.bytes ≡ padded longest_sheet 0 sheet

-- the whole sheet of a text
pub record IsWhole (IsSheet : List ℕ → ℕ → List ℕ → Type 0) (text : List ℕ) (allowance : ℕ) (r : Sheet) : Type 0 where
  pub sheet : List ℕ
  pub of_text : IsSheet text allowance sheet
  pub fills : Fills sheet r

-- its size counts bytes of its array. That follows, and is said for those who take the front part of the array
abbrev pub Counted : Sheet → Type 0
Counted r = (r.size ≤ length r.bytes) × (r.size ≡ length (take r.size r.bytes))
