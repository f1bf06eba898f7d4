-- The characters of a label by a table of their own: RFC 3629's, but for the first row, which leaves out 00-1f and 7f, since every other row is of
-- code points from 80 hex on. Hence a first byte decides how many bytes follow, and no such character begins another.
-- Assumes nothing.
use Prim.Native.Nat.{ℕ, ◌≤◌, ◌<◌}
use mathlib.Core.Path.{◌≡◌, refl, sym, ◌∙◌}
use mathlib.Core.Bool.{Bool, true, false, ◌&&◌, ◌||◌, not, false≢true, and-true, and-false, or-true, or-false}
use mathlib.Core.List.{List, [], ◌∷◌, ◌++◌}
use native.Mathlib.Omega.{arith}
use lib.ListN.{length, drop}
use lib.Dec.{leb, eqb}
use borrow.Author.Tests.{le-leb, ne_eqb, eqb-false, not-true}
use Rattle.label_bytes.specs.Characters.{Range, range, table, is_in, fits, fits_one, is_character, code_point}
use Rattle.label_bytes.specs.Label.{is_shown}
use Rattle.std.proofs.lemmas.Bool.{and_parts}
use Rattle.std.specs.Cmp.{both_ways}
use Rattle.label_bytes.proofs.Table.{in_range, holds_one, outside, all_apart, fits_once}

-- ---- their table

-- the rows of two bytes and more
unfoldable pub long_rows : List (List Range)
long_rows = drop 1 table

unfoldable pub letters : List (List Range)
letters = (range 0x20 0x7e ∷ []) ∷ long_rows

-- what a label asks of a code point
abbrev is_allowed : ℕ → Bool
is_allowed point = leb 0x20 point && not (eqb point 0x7f)

allowed : (point : ℕ) → 0x80 ≤ point → is_allowed point ≡ true
allowed point h = rw (le-leb 0x20 point (omega arith), ne_eqb point 0x7f (omega arith))

long_allowed : (bytes : List ℕ) → fits_one long_rows bytes ≡ true → 0x80 ≤ code_point bytes
unfolding table long_rows
long_allowed = holds_one long_rows (λ bytes. 0x80 ≤ code_point bytes) (omega arith, (omega arith, (omega arith, omega arith)))

-- of one byte
plain_allowed : (bytes : List ℕ) → (fits (range 0x00 0x7f ∷ []) bytes && is_allowed (code_point bytes)) ≡ fits (range 0x20 0x7e ∷ []) bytes
unfolding fits
plain_allowed [] = refl
plain_allowed (a ∷ b ∷ rest) = rw (and-false (is_in (range 0x00 0x7f) a), and-false (is_in (range 0x20 0x7e) a))
plain_allowed (a ∷ []) =
    rw (and-true (is_in (range 0x00 0x7f) a), and-true (is_in (range 0x20 0x7e) a)) (both_ways _ _ to from)
  where
    to : (is_in (range 0x00 0x7f) a && is_allowed a) ≡ true → is_in (range 0x20 0x7e) a ≡ true
    to e =
        let parts = and_parts (is_in (range 0x00 0x7f) a) (is_allowed a) e in
        let limits = in_range (range 0x00 0x7f) a parts.0 in
        let point = and_parts (leb 0x20 a) (not (eqb a 0x7f)) parts.1 in
        let other : a ≡ 0x7f → ⊥ = eqb-false a 0x7f (not-true _ point.1) in
        rw (point.0, le-leb a 0x7e (omega arith))

    from : is_in (range 0x20 0x7e) a ≡ true → (is_in (range 0x00 0x7f) a && is_allowed a) ≡ true
    from e =
        let limits = in_range (range 0x20 0x7e) a e in
        rw (le-leb 0x00 a (omega arith), le-leb a 0x7f (omega arith), le-leb 0x20 a (omega arith), ne_eqb a 0x7f (omega arith))

-- a test of the first row or the others
allowed_or : (plain long is_ok letter : Bool) → (long ≡ true → is_ok ≡ true) → (plain && is_ok) ≡ letter → ((plain || long) && is_ok) ≡ (letter || long)
allowed_or plain true is_ok letter h e = rw (or-true plain, or-true letter) (h refl)
allowed_or plain false is_ok letter h e = rw (or-false plain, or-false letter) e

pub letter_table : (bytes : List ℕ) → is_shown bytes ≡ fits_one letters bytes
unfolding table long_rows letters fits_one is_shown
letter_table bytes =
    allowed_or (fits (range 0x00 0x7f ∷ []) bytes) (fits_one long_rows bytes) (is_allowed (code_point bytes)) (fits (range 0x20 0x7e ∷ []) bytes)
    (λ long. allowed (code_point bytes) (long_allowed bytes long))
    (plain_allowed bytes)

-- ---- their bytes

pub letter_length : (character : List ℕ) → is_shown character ≡ true → length character ≤ 4
unfolding table long_rows letters
letter_length character e =
    holds_one letters (λ bytes. length bytes ≤ 4) (omega arith, (omega arith, (omega arith, (omega arith, omega arith)))) character
    (sym (letter_table character) ∙ e)

pub letter_character : (character : List ℕ) → is_shown character ≡ true → is_character character ≡ true
unfolding is_shown
letter_character character e = (and_parts (is_character character) _ e).0

pub character_some : (character : List ℕ) → is_character character ≡ true → 0 < length character
unfolding table fits_one fits
character_some [] e = absurd (false≢true e)
character_some (b ∷ character) e = omega arith

pub letter_some : (character : List ℕ) → is_shown character ≡ true → 0 < length character
letter_some character e = character_some character (letter_character character e)

-- no character begins another, and so none of a label does
pub character_once : (c d xs ys : List ℕ) → is_character c ≡ true → is_character d ≡ true → c ++ xs ≡ d ++ ys → (c ≡ d) × (xs ≡ ys)
unfolding table outside all_apart fits fits_one
character_once = fits_once table refl refl

pub letter_once : (c d xs ys : List ℕ) → is_shown c ≡ true → is_shown d ≡ true → c ++ xs ≡ d ++ ys → (c ≡ d) × (xs ≡ ys)
letter_once c d xs ys e f = character_once c d xs ys (letter_character c e) (letter_character d f)
