-- Document 01, 'The sheet': numbers and lines as characters.
-- Assumes nothing.
use Rattle.std.specs.Prelude.{ℕ, ◌+◌, ◌/◌, ◌%◌, cond, List, [], ◌∷◌, ◌++◌, ltb}
use Prim.Native.Char.{code}
use Prim.Native.String as S
use Prim.Native.String.{String}
use Rattle.text.specs.Text.{line_feed}

-- two bytes, high byte first
abbrev pub two_bytes : ℕ → List ℕ
two_bytes n = n / 0x100 % 0x100 ∷ n % 0x100 ∷ []

-- characters by their codes
abbrev pub text : String → List ℕ
text S.[] = []
text (S.◌∷◌ c s) = code c ∷ text s

-- 0-9 a-f
unfoldable pub digit : ℕ → ℕ
digit d = cond (ltb d 10) (48 + d) (87 + d)

-- a line: two digits a byte, and a line feed
unfoldable pub hex_line : List ℕ → List ℕ
hex_line [] = line_feed ∷ []
hex_line (b ∷ bs) = digit (b / 16) ∷ digit (b % 16) ∷ hex_line bs

-- lines, one after the other
unfoldable pub hex_lines : List (List ℕ) → List ℕ
hex_lines [] = []
hex_lines (l ∷ ls) = hex_line l ++ hex_lines ls
