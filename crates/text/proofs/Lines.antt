-- The line at a position of a text: its characters are those of the text up to the next line feed, and the lines behind it are those
-- from the position past that. First of a whole text, by its characters; then of the text from a position on; then what makes a line faulty, and its bytes.
-- Assumes nothing.
use Rattle.std.proofs.Common.{◌≡◌, ℕ, zero, suc, ◌+◌, ◌-◌, ◌*◌, ◌/◌, ◌≤◌, ◌<◌, Bool, cond, not, ◌||◌, List, [], ◌∷◌, Option, None, Some, length, get_or, take, drop, refl, ap, ◌∙◌, arith}
use Rattle.std.specs.List.{position_or_len, position, before_first, between}
use Rattle.std.proofs.lemmas.Bool.Decides.{nat_tests}
use Rattle.std.specs.Option.{is_some, unwrap_or}
use Rattle.std.proofs.lemmas.List.{get_or-take, take_rest}
use Rattle.std.proofs.lemmas.List.Folds.{length-prefix_len}
use Rattle.std.proofs.lemmas.List.Sums.{prefix_len-le-length}
use lib.Dec.{leb, ltb, eqb}
use lib.ListN.{length-drop, drop_of_length-le}
use lib.Seq.{get_or-drop, drop-drop}
use Rattle.text.specs.Text.{Line, line_feed, lines_of, rest, value_of, is_digit, all_digits, bad_pair_from, bad_pair, odd_or_none, is_faulty, bytes_of}
use Rattle.text.specs.Positions.{bytes_at, end_at, first_of, line_at, rest_at}

-- ---- the first line of a text

-- what ends a line
abbrev pub is_feed : ℕ → Bool
is_feed c = eqb c line_feed

-- how long the first line of a text is
abbrev first_length : List ℕ → ℕ
first_length t = length (first_of (lines_of t)).characters

first_ended : (t : List ℕ) → (first_of (lines_of t)).ended ≡ ltb (first_length t) (length t)
unfolding lines_of
first_ended [] = refl
first_ended (c ∷ t) = let behind = first_ended t in grind (arith, nat_tests)

first_rest : (t : List ℕ) → rest (lines_of t) ≡ lines_of (drop (suc (first_length t)) t)
unfolding lines_of
first_rest [] = refl
first_rest (c ∷ t) = let behind = first_rest t in grind (arith, nat_tests)

-- it is what stands before the first line feed
first_line : (t : List ℕ) → (first_of (lines_of t)).characters ≡ before_first is_feed t
unfolding lines_of
first_line [] = refl
first_line (c ∷ t) =
    let behind = first_line t in
    let one : 1 + position_or_len is_feed t ≡ suc (position_or_len is_feed t) = omega arith in
    grind (arith, nat_tests, ap (λ n. take n (c ∷ t)) one)

first_end : (t : List ℕ) → first_length t ≡ position_or_len is_feed t
first_end t = ap length (first_line t) ∙ length-prefix_len (λ c. not (is_feed c)) t

first_fits : (t : List ℕ) → first_length t ≤ length t
first_fits t = omega (arith, first_end t, prefix_len-le-length (λ c. not (is_feed c)) t)

first_split : (t : List ℕ) → 0 < length t → lines_of t ≡ first_of (lines_of t) ∷ rest (lines_of t)
unfolding lines_of
first_split [] h = absurd (omega arith)
first_split (c ∷ t) h = grind (arith, nat_tests)

-- ---- the line at a position

module _ (s : List ℕ) (at : ℕ) where
  pub end_fits : at ≤ length s → end_at s at ≤ length s
  end_fits h = omega (arith, first_fits (drop at s), length-drop at s)

  pub ended_at : at ≤ length s → (line_at s at).ended ≡ ltb (end_at s at) (length s)
  ended_at h = first_ended (drop at s) ∙ grind (arith, nat_tests, length-drop at s)

  pub rest_split : at < length s → rest_at s at ≡ line_at s at ∷ rest_at s (end_at s at + 1)
  rest_split h =
      first_split (drop at s) (omega (arith, length-drop at s))
      ∙ ap (λ (ls : List Line). line_at s at ∷ ls) (first_rest (drop at s) ∙ ap lines_of (drop-drop (suc (first_length (drop at s))) at s ∙ ap (λ (k : ℕ). drop k s) past))
    where
      past : at + suc (first_length (drop at s)) ≡ end_at s at + 1
      past = omega arith

  pub rest_none : length s ≤ at → rest_at s at ≡ []
  unfolding lines_of
  rest_none h = ap lines_of (drop_of_length-le s h)

  line_is : (line_at s at).characters ≡ between at (end_at s at) s
  line_is =
      let size : end_at s at - at ≡ first_length (drop at s) = omega arith in
      first_line (drop at s) ∙ rw (← first_end (drop at s), size)

  pub character_at_lem : (j : ℕ) → j < length (line_at s at).characters → get_or (line_at s at).characters j 0 ≡ get_or s (at + j) 0
  character_at_lem j h =
      ap (λ (cs : List ℕ). get_or cs j 0) line_is ∙ get_or-take (end_at s at - at) (drop at s) j 0 (omega arith) ∙ get_or-drop at s j 0

  -- it ends at the first line feed in what stands from there on, and otherwise at the text's end
  pub end_found : (behind : List ℕ) → behind ≡ between at (length s) s → at + unwrap_or (position is_feed behind) (length behind) ≡ end_at s at
  end_found behind e = rw (first_end, e, take_rest) (grind (arith, nat_tests, prefix_len-le-length (λ c. not (is_feed c)) (drop at s)))

  pub end_out : length s ≤ at → end_at s at ≡ at
  end_out h = omega (arith, ap (λ (ls : List Line). length (first_of ls).characters) (rest_none h))

-- ---- the first character other than a digit

abbrev pub is_other : ℕ → Bool
is_other c = not (is_digit c)

bad_is : (i : ℕ) (cs : List ℕ) → bad_pair_from i cs ≡ cond (ltb (position_or_len is_other cs) (length cs)) ((i + position_or_len is_other cs) / 2 + 1) 0
unfolding bad_pair_from
bad_is i [] = refl
bad_is i (c ∷ cs) = let behind = bad_is (i + 1) cs in grind (arith, nat_tests)

-- the pair that holds the character behind so many
abbrev pub pair_of : Option ℕ → ℕ
pair_of None = 0
pair_of (Some before) = before / 2 + 1

pub pair_at : (s : List ℕ) (at : ℕ) → bad_pair (line_at s at).characters ≡ pair_of (position is_other (between at (end_at s at) s))
pair_at s at = ap bad_pair (line_is s at) ∙ rw bad_is (grind (arith, nat_tests))

-- there is none exactly if all are digits
pub bad_none : (i : ℕ) (cs : List ℕ) → all_digits cs ≡ eqb (bad_pair_from i cs) 0
unfolding bad_pair_from all_digits
bad_none i [] = refl
bad_none i (c ∷ cs) = let behind = bad_none (i + 1) cs in grind (arith, nat_tests)

-- and it stands among them
pub bad_fits : (i : ℕ) (cs : List ℕ) → bad_pair_from i cs ≤ (i + length cs + 1) / 2
unfolding bad_pair_from
bad_fits i [] = omega arith
bad_fits i (c ∷ cs) = let behind = bad_fits (i + 1) cs in grind (arith, nat_tests)

-- ---- a faulty line

digits_are : (cs : List ℕ) → all_digits cs ≡ not (is_some (position is_other cs))
digits_are cs = rw (bad_none 0 cs, bad_is 0 cs) (grind (arith, nat_tests))

pub faulty_at : (s : List ℕ) (at : ℕ) → at ≤ length s → is_faulty (line_at s at)
    ≡ (leb (length s) (end_at s at) || (is_some (position is_other (between at (end_at s at) s)) || odd_or_none (end_at s at - at)))
unfolding is_faulty
faulty_at s at h =
    let all = ap all_digits (line_is s at) ∙ digits_are (between at (end_at s at) s) in
    let size : length (line_at s at).characters ≡ end_at s at - at = omega arith in
    rw (ended_at s at h, all, size) (grind (arith, nat_tests))

-- ---- the bytes of a line

pub bytes_length : (cs : List ℕ) → length (bytes_of cs) ≡ length cs / 2
unfolding bytes_of
bytes_length [] = refl
bytes_length (high ∷ []) = refl
bytes_length (high ∷ low ∷ cs) = omega (arith, bytes_length cs)

pub bytes_at_lem : (cs : List ℕ) (i : ℕ) → i < length (bytes_of cs) → get_or (bytes_of cs) i 0 ≡ value_of (get_or cs (i * 2) 0) * 16 + value_of (get_or cs (i * 2 + 1) 0)
unfolding bytes_of
bytes_at_lem [] i h = absurd (omega arith)
bytes_at_lem (high ∷ []) i h = absurd (omega arith)
bytes_at_lem (high ∷ low ∷ cs) zero h = refl
bytes_at_lem (high ∷ low ∷ cs) (suc i) h =
    let second : suc i * 2 + 1 ≡ suc (suc (i * 2 + 1)) = omega arith in
    let first : suc i * 2 ≡ suc (suc (i * 2)) = omega arith in
    rw (second, first) (bytes_at_lem cs i (omega arith))

-- a byte is below 256, since a digit is below 16
value_small : (c : ℕ) → value_of c < 16
unfolding value_of
value_small c = grind (arith, nat_tests)

pub byte_small : (cs : List ℕ) (i : ℕ) → get_or (bytes_of cs) i 0 < 0x100
unfolding bytes_of
byte_small [] i = omega arith
byte_small (high ∷ []) i = omega arith
byte_small (high ∷ low ∷ cs) zero = omega (arith, value_small)
byte_small (high ∷ low ∷ cs) (suc i) = byte_small cs i

-- a line has half as many bytes as characters, and a byte's two digits stand in the text
module _ (s : List ℕ) (at : ℕ) where
  pub size_at : length (bytes_at s at) ≡ (end_at s at - at) / 2
  size_at = omega (arith, bytes_length (line_at s at).characters)

  pub bytes_fit : length (bytes_at s at) ≤ length s
  bytes_fit = omega (arith, size_at, first_fits (drop at s), length-drop at s)

  module _ (i : ℕ) (h : i < length (bytes_at s at)) where
    in_line : i * 2 + 1 < first_length (drop at s)
    in_line = omega (arith, bytes_length (line_at s at).characters)

    pub byte_fits : at + i * 2 + 1 < length s
    byte_fits = omega (arith, in_line, first_fits (drop at s), length-drop at s)

    pub byte_at : get_or (bytes_at s at) i 0 ≡ value_of (get_or s (at + i * 2) 0) * 16 + value_of (get_or s (at + i * 2 + 1) 0)
    byte_at =
        let low : at + (i * 2 + 1) ≡ at + i * 2 + 1 = omega arith in
        let there = character_at_lem s at in
        bytes_at_lem (line_at s at).characters i h ∙ rw (there (i * 2) (omega (arith, in_line)), there (i * 2 + 1) in_line, low)
