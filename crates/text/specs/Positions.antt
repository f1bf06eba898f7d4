-- Positions of a text: a position stands for the lines from there on.
-- Assumes nothing.
use Rattle.std.specs.Prelude.{ℕ, ◌+◌, false, List, [], ◌∷◌, length, drop}
use Rattle.text.specs.Text.{Line, lines_of, bytes_of}

-- the lines from a position on
abbrev pub rest_at : List ℕ → ℕ → List Line
rest_at s at = lines_of (drop at s)

abbrev pub first_of : List Line → Line
first_of [] = record { characters = []; ended = false }
first_of (l ∷ ls) = l

-- the line that begins at a position
abbrev pub line_at : List ℕ → ℕ → Line
line_at s at = first_of (rest_at s at)

-- the position past its characters
abbrev pub end_at : List ℕ → ℕ → ℕ
end_at s at = at + length (line_at s at).characters

-- its bytes
abbrev pub bytes_at : List ℕ → ℕ → List ℕ
bytes_at s at = bytes_of (line_at s at).characters
