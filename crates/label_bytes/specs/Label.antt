-- Document 02, order 2: the characters of a label, and the longest whole-character beginning of at most 24 bytes.
-- Assumes nothing.
use Rattle.std.specs.Prelude.{ℕ, zero, suc, ◌≤◌, Bool, true, false, cond, not, ◌&&◌, ◌≡◌, List, [], ◌∷◌, ◌++◌, length, leb, eqb}
use Rattle.limits.specs.Limits.{longest_short}
use Rattle.label_bytes.specs.Characters.{is_character, code_point, MadeOf}

-- ---- well formed

-- well formed, with no code point below 20 hex and not 7f
unfoldable pub is_shown : List ℕ → Bool
is_shown character = is_character character && (leb 0x20 (code_point character) && not (eqb (code_point character) 0x7f))

-- made of characters that a label may have; how many bytes a label has is judged by its frame (4)
abbrev pub IsLabel : List ℕ → Type 0
IsLabel = MadeOf is_shown

-- the test of it, as `label-test` (proofs/Labels.antt) shows: byte is read after byte, and where those begun are a character, the next begins; none is
-- left begun
unfoldable pub is_label_from : List ℕ → List ℕ → Bool
is_label_from [] [] = true
is_label_from (b ∷ begun) [] = false
is_label_from begun (b ∷ bytes) =
    let more = begun ++ (b ∷ []) in
    let next = is_label_from [] bytes in
    let later = is_label_from more bytes in
    cond (is_shown more) next later

abbrev pub is_label : List ℕ → Bool
is_label = is_label_from []

-- ---- shortened

-- the bytes go on behind their beginning
pub record Begins (beginning bytes : List ℕ) : Type 0 where
  pub rest : List ℕ
  pub is : beginning ++ rest ≡ bytes

-- a whole-character beginning of at most so many bytes
pub record Short (most : ℕ) (bytes beginning : List ℕ) : Type 0 where
  pub begins : Begins beginning bytes
  pub short : length beginning ≤ most
  pub whole : IsLabel beginning

-- the longest of them
pub record LongestBeginning (most : ℕ) (bytes beginning : List ℕ) : Type 0 where
  pub is : Short most bytes beginning
  pub longest : (other : List ℕ) → Short most bytes other → length other ≤ length beginning

-- the label's shortened form
abbrev pub IsShortened : List ℕ → List ℕ → Type 0
IsShortened = LongestBeginning longest_short

-- the function that gives it, as `shortened-is` (proofs/Labels.antt) shows: a character is added where it is whole within so many bytes more
unfoldable pub shortened_from : ℕ → List ℕ → List ℕ → List ℕ
shortened_from room begun [] = []
shortened_from zero begun (b ∷ bytes) = []
shortened_from (suc room) begun (b ∷ bytes) =
    let more = begun ++ (b ∷ []) in
    let added = more ++ shortened_from room [] bytes in
    let later = shortened_from room more bytes in
    cond (is_shown more) added later

abbrev pub shortened : List ℕ → List ℕ
shortened = shortened_from longest_short []
