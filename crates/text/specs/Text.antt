-- Document 01, 'Plan text': a text as lines, a line as bytes, and what makes a line faulty (2); document 02's order 3: the pair at fault in such a line.
-- Assumes nothing.
use Rattle.std.specs.Prelude.{ℕ, ◌+◌, ◌-◌, ◌*◌, ◌/◌, ◌%◌, Bool, true, false, cond, not, ◌&&◌, ◌||◌, List, [], ◌∷◌, length, get_or, leb, eqb}

-- a line: its characters, and whether a line feed ends it
pub record Line : Type 0 where
  pub characters : List ℕ
  pub ended : Bool

abbrev pub line_feed : ℕ
line_feed = 0x0a

-- a character in front of the lines behind it: a line feed ends an empty line, any other joins the first of them
abbrev pub in_front : Bool → ℕ → List Line → List Line
in_front true c ls = record { characters = []; ended = true } ∷ ls
in_front false c [] = record { characters = c ∷ []; ended = false } ∷ []
in_front false c (l ∷ ls) = record { characters = c ∷ l.characters; ended = l.ended } ∷ ls

-- the lines of a text; the last may lack its line feed
unfoldable pub lines_of : List ℕ → List Line
lines_of [] = []
lines_of (c ∷ s) = in_front (eqb c line_feed) c (lines_of s)

-- the lines behind the first
abbrev pub rest : List Line → List Line
rest [] = []
rest (l ∷ ls) = ls

-- 0-9, by their codes 48 to 57
abbrev pub is_numeral : ℕ → Bool
is_numeral c = leb 48 c && leb c 57

-- a-f, by their codes 97 to 102
abbrev pub is_letter : ℕ → Bool
is_letter c = leb 97 c && leb c 102

unfoldable pub is_digit : ℕ → Bool
is_digit c = is_numeral c || is_letter c

-- a digit's value, and 0 for any other character
unfoldable pub value_of : ℕ → ℕ
value_of c = cond (is_numeral c) (c - 48) (cond (is_letter c) (c - 87) 0)

unfoldable pub all_digits : List ℕ → Bool
all_digits [] = true
all_digits (c ∷ cs) = is_digit c && all_digits cs

-- of odd length, or empty
unfoldable pub odd_or_none : ℕ → Bool
odd_or_none size = eqb (size % 2) 1 || eqb size 0

-- refusal 2: without line feed, with another character than a digit, of odd length, or empty
unfoldable pub is_faulty : Line → Bool
is_faulty l = not l.ended || (not (all_digits l.characters) || odd_or_none (length l.characters))

-- the pair, from 1, that holds the first character other than a digit, where `i` characters of the line stand before these; 0 without one
unfoldable pub bad_pair_from : ℕ → List ℕ → ℕ
bad_pair_from i [] = 0
bad_pair_from i (c ∷ cs) = cond (is_digit c) (bad_pair_from (i + 1) cs) (i / 2 + 1)

abbrev pub bad_pair : List ℕ → ℕ
bad_pair = bad_pair_from 0

-- two digits a byte
unfoldable pub bytes_of : List ℕ → List ℕ
bytes_of [] = []
bytes_of (high ∷ []) = []
bytes_of (high ∷ low ∷ cs) = (value_of high * 16 + value_of low) ∷ bytes_of cs

-- byte number i of a line, where the first has number 0
abbrev pub byte : ℕ → List ℕ → ℕ
byte i bytes = get_or bytes i 0
