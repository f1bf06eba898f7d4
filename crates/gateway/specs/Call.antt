-- What a caller in another language gets: a number, and what the buffer holds afterwards.
-- Assumes nothing.
use Rattle.std.specs.Prelude.{ℕ, ◌<◌, ◌≤◌, ◌≡◌, List, ◌++◌, length, drop}

-- by the sheet and what the buffer held before
pub record Fits (sheet before : List ℕ) (size : ℕ) (after : List ℕ) : Type 0 where
  -- the sheet's length, whether it fits or not
  pub long : size ≡ length sheet
  -- it does not fit: the buffer is unchanged
  pub unchanged : length before < length sheet → after ≡ before
  -- it fits: it stands at the buffer's start, and every byte past it stays
  pub written : length sheet ≤ length before → after ≡ sheet ++ drop (length sheet) before

-- the same, by the text and the allowance of rounds, with the sheet that is meant: `IsSheet text allowance sheet`
pub record Answers (IsSheet : List ℕ → ℕ → List ℕ → Type 0) (text : List ℕ) (allowance : ℕ) (before : List ℕ) (size : ℕ) (after : List ℕ) : Type 0 where
  pub sheet : List ℕ
  pub of_text : IsSheet text allowance sheet
  pub fits : Fits sheet before size after
