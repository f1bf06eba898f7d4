-- Texts that are made of characters, one character after the other; and the longest whole-character beginning of at most so many bytes: it is empty
-- where no character fits, and otherwise a character and the longest behind it, since no character begins another.
-- Assumes nothing.
use Prim.Native.Nat.{ℕ, ◌+◌, ◌≤◌, ◌<◌}
use mathlib.Core.Path.{◌≡◌, refl, sym, ap, subst}
use mathlib.Core.Logic.{◌⊎◌, inl, inr, ⊎_elim}
use mathlib.Core.Bool.{Bool, true}
use mathlib.Core.List.{List, [], ◌∷◌, ◌++◌, append_assoc, append-nil}
use native.Mathlib.Omega.{arith}
use lib.ListN.{length, length-append}
use Rattle.label_bytes.specs.Characters.{Each, joined, MadeOf}
use Rattle.label_bytes.specs.Label.{is_shown, IsLabel, Begins, Short, LongestBeginning}
use Rattle.label_bytes.proofs.Lists.{begins_length, begins_trans}
use Rattle.label_bytes.proofs.Letters.{letter_some, letter_once}

-- ---- made of characters

module _ (is_one : List ℕ → Bool) where
  pub made_none : MadeOf is_one []
  unfolding joined
  made_none = record { characters = []; each = tt; joins = refl }

  pub made_one : (c : List ℕ) → is_one c ≡ true → MadeOf is_one c
  unfolding joined
  made_one c e = record { characters = c ∷ []; each = (e, tt); joins = append-nil c }

  pub made_more : (c bytes : List ℕ) → is_one c ≡ true → MadeOf is_one bytes → MadeOf is_one (c ++ bytes)
  unfolding joined
  made_more c bytes e m =
      record { characters = c ∷ m.characters; each = (e, m.each); joins = ap (λ (rest : List ℕ). c ++ rest) m.joins }

  joined_append : (cs : List (List ℕ)) (bytes : List ℕ) → Each is_one cs → MadeOf is_one bytes → MadeOf is_one (joined cs ++ bytes)
  unfolding joined
  joined_append [] bytes t m = m
  joined_append (c ∷ cs) bytes t m = rw append_assoc (made_more c (joined cs ++ bytes) t.0 (joined_append cs bytes t.1 m))

  pub made_append : (xs ys : List ℕ) → MadeOf is_one xs → MadeOf is_one ys → MadeOf is_one (xs ++ ys)
  made_append xs ys m n =
      subst (λ (front : List ℕ). MadeOf is_one (front ++ ys)) m.joins (joined_append m.characters ys m.each n)

-- ---- the first character of a label

pub record First (bytes : List ℕ) : Type 0 where
  pub character : List ℕ
  pub letter : is_shown character ≡ true
  pub rest : List ℕ
  pub whole : IsLabel rest
  pub is : character ++ rest ≡ bytes

first_joined : (cs : List (List ℕ)) (bytes : List ℕ) → Each is_shown cs → joined cs ≡ bytes → (bytes ≡ []) ⊎ First bytes
unfolding joined
first_joined [] bytes t j = inl (sym j)
first_joined (c ∷ cs) bytes t j = inr record {
  character = c;
  letter = t.0;
  rest = joined cs;
  whole = record { characters = cs; each = t.1; joins = refl };
  is = j;
}

-- a label is empty, or begins with a character
pub first_of : (bytes : List ℕ) → IsLabel bytes → (bytes ≡ []) ⊎ First bytes
first_of bytes m = first_joined m.characters bytes m.each m.joins

abbrev pub first_begins : (bytes : List ℕ) (f : First bytes) → Begins f.character bytes
first_begins bytes f = record { rest = f.rest; is = f.is }

-- behind a character that a label begins with, it is a label
pub label_rest : (c bytes : List ℕ) → is_shown c ≡ true → IsLabel (c ++ bytes) → IsLabel bytes
label_rest c bytes e m =
    ⊎_elim
    (λ none. absurd (omega (arith, letter_some c e, simp length-append at (ap length none))))
    (λ f. subst IsLabel (letter_once f.character c f.rest bytes f.letter e f.is).1 f.whole)
    (first_of (c ++ bytes) m)

-- ---- the longest beginning

-- no character fits
pub longest_none : (most : ℕ) (bytes : List ℕ) → ((c : List ℕ) → is_shown c ≡ true → Begins c bytes → most < length c) → LongestBeginning most bytes []
longest_none most bytes none = record {
  is = record { begins = record { rest = bytes; is = refl }; short = omega arith; whole = made_none is_shown };
  longest = λ other s. ⊎_elim (λ e. omega (arith, ap length e)) (no_first other s) (first_of other s.whole);
}
  where
    no_first : (other : List ℕ) → Short most bytes other → First other → length other ≤ 0
    no_first other s f =
        let begins = first_begins other f in
        let long = none f.character f.letter (begins_trans f.character other bytes begins s.begins) in
        omega (arith, begins_length f.character other begins, s.short)

-- a character, and the longest behind it
pub longest_more : (most : ℕ) (c bytes beginning : List ℕ) → is_shown c ≡ true → LongestBeginning most bytes beginning
    → LongestBeginning (length c + most) (c ++ bytes) (c ++ beginning)
longest_more most c bytes beginning e l = record {
  is = record {
    begins = record { rest = l.is.begins.rest; is = rw (append_assoc, l.is.begins.is) };
    short = omega (arith, length-append c beginning, l.is.short);
    whole = made_more is_shown c beginning e l.is.whole;
  };
  longest = λ other s. ⊎_elim (λ none. omega (arith, ap length none)) (behind other s) (first_of other s.whole);
}
  where
    behind : (other : List ℕ) → Short (length c + most) (c ++ bytes) other → First other → length other ≤ length (c ++ beginning)
    behind other s f =
        let begins = begins_trans f.character other (c ++ bytes) (first_begins other f) s.begins in
        let same = letter_once f.character c (f.rest ++ s.begins.rest) bytes f.letter e begins.is in
        let sizes = simp length-append at (ap length f.is) in
        let first : length f.character ≡ length c = ap length same.0 in
        let begins_rest : Begins f.rest bytes = record { rest = s.begins.rest; is = same.1 } in
        let rest : Short most bytes f.rest = record { begins = begins_rest; short = omega (arith, s.short); whole = f.whole } in
        omega (arith, length-append c beginning, l.longest f.rest rest)
