-- RFC 3629, section 4: the bytes of a character by their ranges, and texts that are made of characters.
-- Assumes nothing.
use Rattle.std.specs.Prelude.{ℕ, ◌+◌, ◌*◌, ◌%◌, Bool, true, false, ◌&&◌, ◌||◌, ◌≡◌, List, [], ◌∷◌, ◌++◌, leb}

-- ---- the table

-- the bytes from the lowest to the highest
pub record Range : Type 0 where
  pub lowest : ℕ
  pub highest : ℕ

abbrev pub range : ℕ → ℕ → Range
range lowest highest = record { lowest = lowest; highest = highest }

-- UTF8-tail
abbrev pub tail : Range
tail = range 0x80 0xbf

-- UTF8-1, UTF8-2, UTF8-3 and UTF8-4: a range for each byte of a character
unfoldable pub table : List (List Range)
table =
    (range 0x00 0x7f ∷ [])
    ∷ (range 0xc2 0xdf ∷ tail ∷ [])
    ∷ (range 0xe0 0xe0 ∷ range 0xa0 0xbf ∷ tail ∷ [])
    ∷ (range 0xe1 0xec ∷ tail ∷ tail ∷ [])
    ∷ (range 0xed 0xed ∷ range 0x80 0x9f ∷ tail ∷ [])
    ∷ (range 0xee 0xef ∷ tail ∷ tail ∷ [])
    ∷ (range 0xf0 0xf0 ∷ range 0x90 0xbf ∷ tail ∷ tail ∷ [])
    ∷ (range 0xf1 0xf3 ∷ tail ∷ tail ∷ tail ∷ [])
    ∷ (range 0xf4 0xf4 ∷ range 0x80 0x8f ∷ tail ∷ tail ∷ [])
    ∷ []

-- ---- a character

abbrev pub is_in : Range → ℕ → Bool
is_in r byte = leb r.lowest byte && leb byte r.highest

-- a byte in each range, and no more
unfoldable pub fits : List Range → List ℕ → Bool
fits [] [] = true
fits [] (b ∷ bs) = false
fits (r ∷ rs) [] = false
fits (r ∷ rs) (b ∷ bs) = is_in r b && fits rs bs

-- of one of the rows
unfoldable pub fits_one : List (List Range) → List ℕ → Bool
fits_one [] bytes = false
fits_one (row ∷ rows) bytes = fits row bytes || fits_one rows bytes

-- UTF8-char
abbrev pub is_character : List ℕ → Bool
is_character = fits_one table

-- the code point of a character: the bits of its first byte that don't tell its length, then six of each tail
abbrev pub code_point : List ℕ → ℕ
code_point [] = 0
code_point (a ∷ []) = a
code_point (a ∷ b ∷ []) = a % 0x20 * 0x40 + b % 0x40
code_point (a ∷ b ∷ c ∷ []) = (a % 0x10 * 0x40 + b % 0x40) * 0x40 + c % 0x40
code_point (a ∷ b ∷ c ∷ d ∷ rest) = ((a % 0x08 * 0x40 + b % 0x40) * 0x40 + c % 0x40) * 0x40 + d % 0x40

-- ---- made of characters

abbrev pub Each : (List ℕ → Bool) → List (List ℕ) → Type 0
Each is_one [] = Unit {0}
Each is_one (c ∷ cs) = (is_one c ≡ true) × Each is_one cs

unfoldable pub joined : List (List ℕ) → List ℕ
joined [] = []
joined (c ∷ cs) = c ++ joined cs

-- bytes that are whole characters, one after the other, of which a test holds
pub record MadeOf (is_one : List ℕ → Bool) (bytes : List ℕ) : Type 0 where
  pub characters : List (List ℕ)
  pub each : Each is_one characters
  pub joins : joined characters ≡ bytes

-- UTF8-octets
abbrev pub WellFormed : List ℕ → Type 0
WellFormed = MadeOf is_character
