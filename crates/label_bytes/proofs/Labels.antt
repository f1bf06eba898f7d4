-- Labels, for the crates above: the test decides what a label is, the shortened form is the one that is computed, it is short, and it is a label and
-- not empty where the label is not; labels, plain texts and texts one behind the other are well formed.
-- Assumes nothing.
use Prim.Native.Nat.{ℕ, ◌≤◌, ◌<◌}
use mathlib.Core.Path.{◌≡◌, refl, sym, ap, subst, ◌∙◌}
use mathlib.Core.Logic.{◌↔◌, ⊎_elim}
use mathlib.Core.Bool.{Bool, true, ◌&&◌}
use mathlib.Core.List.{List, [], ◌∷◌, ◌++◌, append_assoc}
use native.Mathlib.Omega.{arith}
use lib.ListN.{length, length-append}
use lib.Dec.{ltb}
use borrow.Author.Tests.{ltb-true, le-leb}
use Rattle.limits.specs.Limits.{longest_short}
use Rattle.label_bytes.specs.Characters.{table, fits, fits_one, is_character, Each, joined, WellFormed}
use Rattle.label_bytes.specs.Label.{is_shown, IsLabel, is_label, Begins, Short, IsShortened, shortened}
use Rattle.std.proofs.lemmas.Bool.{and_parts}
use Rattle.std.specs.Cmp.{both_ways}
use Rattle.label_bytes.proofs.Lists.{begins_take}
use Rattle.label_bytes.proofs.Letters.{letter_length, letter_some, character_some, character_once, letter_character}
use Rattle.label_bytes.proofs.Beginnings.{made_none, made_one, made_more, made_append, First, first_of, first_begins}
use Rattle.label_bytes.proofs.Computed.{unfinished_none, whole_test, longest_computed}

-- ---- the test

pub label_test : (bytes : List ℕ) → (is_label bytes ≡ true) ↔ IsLabel bytes
label_test bytes = whole_test bytes [] bytes refl unfinished_none

-- what decides a label is the test
pub test_is : (r : Bool) (bytes : List ℕ) → ((r ≡ true) ↔ IsLabel bytes) → r ≡ is_label bytes
test_is r bytes d = both_ways r (is_label bytes) (λ e. (label_test bytes).1 (d.0 e)) (λ e. d.1 ((label_test bytes).0 e))

-- ---- the shortened form

pub shortened_is : (bytes : List ℕ) → IsShortened bytes (shortened bytes)
shortened_is bytes = longest_computed bytes longest_short longest_short [] bytes refl refl unfinished_none

-- there is one
pub shortened_once : (bytes r s : List ℕ) → IsShortened bytes r → IsShortened bytes s → r ≡ s
shortened_once bytes r s a b =
    let size : length r ≡ length s = omega (arith, a.longest s b.is, b.longest r a.is) in
    sym (begins_take r bytes a.is.begins) ∙ rw size (begins_take s bytes b.is.begins)

pub shortened_same : (bytes r : List ℕ) → IsShortened bytes r → r ≡ shortened bytes
shortened_same bytes r a = shortened_once bytes r (shortened bytes) a (shortened_is bytes)

pub shortened_short : (bytes : List ℕ) → length (shortened bytes) ≤ longest_short
shortened_short bytes = (shortened_is bytes).is.short

-- a label is not shortened to nothing: its first character fits
pub shortened_label : (bytes r : List ℕ) → IsLabel bytes → 0 < length bytes → IsShortened bytes r → IsLabel r × (0 < length r)
shortened_label bytes r m some s = (s.is.whole, ⊎_elim none first (first_of bytes m))
  where
    none : bytes ≡ [] → 0 < length r
    none e = omega (arith, ap length e)

    first : First bytes → 0 < length r
    first f =
        let fits : length f.character ≤ longest_short = omega (arith, letter_length f.character f.letter) in
        let alone = made_one is_shown f.character f.letter in
        let short : Short longest_short bytes f.character = record { begins = first_begins bytes f; short = fits; whole = alone } in
        omega (arith, letter_some f.character f.letter, s.longest f.character short)

-- ---- well formed

each_character : (cs : List (List ℕ)) → Each is_shown cs → Each is_character cs
each_character [] t = t
each_character (c ∷ cs) t = (letter_character c t.0, each_character cs t.1)

pub label_well_formed : (bytes : List ℕ) → IsLabel bytes → WellFormed bytes
label_well_formed bytes m = record { characters = m.characters; each = each_character m.characters m.each; joins = m.joins }

-- a whole-character beginning of a label, of whatever characters, is made of a label's
label_front : (cs : List (List ℕ)) (rest bytes : List ℕ) → Each is_character cs → joined cs ++ rest ≡ bytes → IsLabel bytes → IsLabel (joined cs)
unfolding joined
label_front [] rest bytes t p m = made_none is_shown
label_front (c ∷ cs) rest bytes t p m =
    ⊎_elim none (λ f. some f (label_front cs rest f.rest t.1 (same f).1 f.whole)) (first_of bytes m)
  where
    on : c ++ (joined cs ++ rest) ≡ bytes
    on = sym (append_assoc c (joined cs) rest) ∙ p

    none : bytes ≡ [] → IsLabel (c ++ joined cs)
    none e = absurd (omega (arith, character_some c t.0, simp length-append at (ap length (on ∙ e))))

    same : (f : First bytes) → (c ≡ f.character) × (joined cs ++ rest ≡ f.rest)
    same f = character_once c f.character (joined cs ++ rest) f.rest t.0 (letter_character _ f.letter) (on ∙ sym f.is)

    some : First bytes → IsLabel (joined cs) → IsLabel (c ++ joined cs)
    some f behind = made_more is_shown c (joined cs) (rw (same f).0 f.letter) behind

-- so no longer one is within 24 bytes
pub shortened_longest : (bytes r other : List ℕ) → IsLabel bytes → IsShortened bytes r → Begins other bytes → WellFormed other
    → length other ≤ longest_short → length other ≤ length r
shortened_longest bytes r other m s b w h =
    let front = ap (λ (l : List ℕ). l ++ b.rest) w.joins ∙ b.is in
    let whole = subst IsLabel w.joins (label_front w.characters b.rest bytes w.each front m) in
    s.longest other (record { begins = b; short = h; whole = whole })

pub well_formed_append : (xs ys : List ℕ) → WellFormed xs → WellFormed ys → WellFormed (xs ++ ys)
well_formed_append = made_append is_character

-- every number is below 80 hex
abbrev pub all_plain : List ℕ → Bool
all_plain [] = true
all_plain (b ∷ bytes) = ltb b 0x80 && all_plain bytes

plain_character : (b : ℕ) → b < 0x80 → is_character (b ∷ []) ≡ true
unfolding table fits fits_one
plain_character b h = rw (le-leb 0x00 b (omega arith), le-leb b 0x7f (omega arith))

pub plain_well_formed : (bytes : List ℕ) → all_plain bytes ≡ true → WellFormed bytes
plain_well_formed [] e = made_none is_character
plain_well_formed (b ∷ bytes) e =
    let parts = and_parts (ltb b 0x80) (all_plain bytes) e in
    made_more is_character (b ∷ []) bytes (plain_character b (ltb-true b 0x80 parts.0)) (plain_well_formed bytes parts.1)
