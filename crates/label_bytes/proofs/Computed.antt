-- What the checker computes is what the definitions say: `is_label_from` decides a label and `shortened_from` is the longest beginning, where the bytes begun
-- hold no whole character yet. Where the next byte ends one, it is taken off in front; otherwise one byte more is begun.
-- Assumes nothing.
use Prim.Native.Nat.{ℕ, zero, suc, ◌+◌, ◌<◌}
use mathlib.Core.Path.{◌≡◌, refl, sym, ap, subst, ◌∙◌}
use mathlib.Core.Logic.{◌↔◌, ⊎_elim}
use mathlib.Core.Bool.{Bool, true, false, false≢true}
use mathlib.Core.List.{List, [], ◌∷◌, ◌++◌, append_assoc, append-nil}
use native.Mathlib.Omega.{arith}
use lib.ListN.{length, length-append}
use Rattle.label_bytes.specs.Label.{is_shown, IsLabel, is_label_from, Begins, LongestBeginning, shortened_from}
use Rattle.std.proofs.lemmas.Bool.{cases_lt, cond_both, false_from_ne_true}
use Rattle.label_bytes.proofs.Lists.{begins_length, begins_front}
use Rattle.label_bytes.proofs.Letters.{letter_some}
use Rattle.label_bytes.proofs.Beginnings.{made_none, made_more, First, first_of, first_begins, label_rest, longest_none, longest_more}

-- ---- the bytes begun

-- no character of a label, and no beginning that is one
abbrev pub Unfinished : List ℕ → Type 0
Unfinished begun = (c : List ℕ) → Begins c begun → is_shown c ≡ false

pub unfinished_none : Unfinished []
unfinished_none c b = false_from_ne_true (is_shown c) (λ e. omega (arith, letter_some c e, begins_length c [] b))

-- a character that the bytes begin with goes on behind those begun
unfinished_long : (begun bytes text c : List ℕ) → begun ++ bytes ≡ text → Unfinished begun → is_shown c ≡ true → Begins c text → length begun < length c
unfinished_long begun bytes text c p u e b =
    ⊎_elim
    (λ long. long)
    (λ short. absurd (false≢true (sym (u c (begins_front c begun bytes short (rw (← p) at b))) ∙ e)))
    (cases_lt (length begun) (length c))

unfinished_more : (begun : List ℕ) (b : ℕ) → Unfinished begun → is_shown (begun ++ (b ∷ [])) ≡ false → Unfinished (begun ++ (b ∷ []))
unfinished_more begun b u e c d = false_from_ne_true (is_shown c) (λ letter. none d.rest letter d.is)
  where
    none : (rest : List ℕ) → is_shown c ≡ true → c ++ rest ≡ begun ++ (b ∷ []) → ⊥
    none [] letter p = false≢true (sym e ∙ ap is_shown (sym p ∙ append-nil c) ∙ letter)
    none (x ∷ rest) letter p =
        let long = unfinished_long begun (b ∷ []) (begun ++ (b ∷ [])) c refl u letter d in
        omega (arith, length-append c (x ∷ rest), length-append begun (b ∷ []), ap length p)

-- where nothing follows, there is none
unfinished_end : (begun text c : List ℕ) → begun ++ [] ≡ text → Unfinished begun → is_shown c ≡ true → Begins c text → ⊥
unfinished_end begun text c p u e b =
    let long = unfinished_long begun [] text c p u e b in
    omega (arith, begins_length c text b, length-append begun [], ap length p)

-- ---- a label

-- with a character in front it is a label exactly if it is one
label_behind : (t : Bool) (c bytes : List ℕ) → is_shown c ≡ true → (t ≡ true) ↔ IsLabel bytes → (t ≡ true) ↔ IsLabel (c ++ bytes)
label_behind t c bytes e d = (λ so. made_more is_shown c bytes e (d.0 so), λ m. d.1 (label_rest c bytes e m))

pub whole_test : (bytes begun text : List ℕ) → begun ++ bytes ≡ text → Unfinished begun → (is_label_from begun bytes ≡ true) ↔ IsLabel text
unfolding is_label_from
whole_test [] [] text p u = (λ _. subst IsLabel p (made_none is_shown), λ _. refl)
whole_test [] (b ∷ begun) text p u = (λ e. absurd (false≢true e), λ m. absurd (⊎_elim none some (first_of text m)))
  where
    none : text ≡ [] → ⊥
    none e = omega (arith, ap length (p ∙ e))

    some : First text → ⊥
    some f = unfinished_end (b ∷ begun) text f.character p u f.letter (first_begins text f)
whole_test (b ∷ bytes) begun text p u =
    let more = begun ++ (b ∷ []) in
    let whole : more ++ bytes ≡ text = append_assoc begun (b ∷ []) bytes ∙ p in
    let behind = whole_test bytes [] bytes refl unfinished_none in
    cond_both (is_shown more) (is_label_from [] bytes) (is_label_from more bytes) (λ t. (t ≡ true) ↔ IsLabel text)
    (λ e. rw whole at (label_behind (is_label_from [] bytes) more bytes e behind))
    (λ e. whole_test bytes more text whole (unfinished_more begun b u e))

-- ---- the longest beginning

pub longest_computed : (bytes : List ℕ) (room most : ℕ) (begun text : List ℕ) → length begun + room ≡ most → begun ++ bytes ≡ text → Unfinished begun
    → LongestBeginning most text (shortened_from room begun bytes)
unfolding shortened_from
longest_computed [] room most begun text n p u =
    longest_none most text (λ c e b. absurd (unfinished_end begun text c p u e b))
longest_computed (b ∷ bytes) zero most begun text n p u = longest_none most text long
  where
    long : (c : List ℕ) → is_shown c ≡ true → Begins c text → most < length c
    long c e d = omega (arith, unfinished_long begun (b ∷ bytes) text c p u e d)
longest_computed (b ∷ bytes) (suc room) most begun text n p u =
    let more = begun ++ (b ∷ []) in
    let whole : more ++ bytes ≡ text = append_assoc begun (b ∷ []) bytes ∙ p in
    let size : length more + room ≡ most = omega (arith, length-append begun (b ∷ [])) in
    let behind = longest_computed bytes room room [] bytes (omega arith) refl unfinished_none in
    cond_both (is_shown more) (more ++ shortened_from room [] bytes) (shortened_from room more bytes) (LongestBeginning most text)
    (λ e. rw (size, whole) at (longest_more room more bytes (shortened_from room [] bytes) e behind))
    (λ e. longest_computed bytes room most more text size whole (unfinished_more begun b u e))
