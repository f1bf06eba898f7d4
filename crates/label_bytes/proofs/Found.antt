-- What bytes begin with: a character of a label, whose size their first byte says. Where the bytes of that size are none, no other beginning is one,
-- since every one with this first byte has that size.
-- Assumes nothing.
use Rattle.std.proofs.Common.{ℕ, suc, ◌-◌, ◌≤◌, ◌<◌, ◌≡◌, sym, ap, ◌∙◌, refl, Bool, true, false, ◌&&◌, List, [], ◌∷◌, None, Some, length, take, drop, get_or, replicate, arith}
use Rattle.std.specs.Bool.{then_some}
use Rattle.std.specs.declared.ops.RangeInclusive.{RangeInclusive}
use Rattle.std.specs.List.{slice_get}
use Rattle.std.proofs.lemmas.List.{get_or-take, length-take-le}
use lib.ListN.{length-replicate}
use Rattle.label_bytes.specs.declared.Lead.{Lead}
use Rattle.label_bytes.specs.declared.Lead.TheVariants.{One, More}
use Rattle.label_bytes.specs.Characters.{tail, is_in, fits}
use Rattle.label_bytes.specs.Label.{is_shown, Begins}
use Rattle.label_bytes.specs.inner.Working.{range_of, are_tails, behind, Leads, Begun}
use Rattle.std.proofs.lemmas.Bool.{false_from_ne_true}
use Rattle.label_bytes.proofs.Lists.{begins_length, begins_take}
use Rattle.label_bytes.proofs.Table.{fits_length}
use Rattle.label_bytes.proofs.Letters.{letter_some}

-- ---- tails

fits_tails : (bytes : List ℕ) → fits (replicate (length bytes) tail) bytes ≡ are_tails bytes
unfolding fits
fits_tails [] = refl
fits_tails (b ∷ bytes) = rw (fits_tails bytes)

-- ---- a character

-- nothing stands there
pub begun_out : (bytes : List ℕ) → None ≡ slice_get bytes 0 → Begun bytes None
begun_out [] e c b = false_from_ne_true (is_shown c) (λ e. omega (arith, letter_some c e, begins_length c [] b))
begun_out (x ∷ bytes) e c b = cc

first_and_rest : (bytes : List ℕ) (first : ℕ) → Some first ≡ slice_get bytes 0 → bytes ≡ first ∷ drop 1 bytes
first_and_rest [] first e = cc
first_and_rest (x ∷ bytes) first e = cc

module _ (bytes : List ℕ) (first : ℕ) (stands : Some first ≡ slice_get bytes 0) where
  is : bytes ≡ first ∷ drop 1 bytes
  is = first_and_rest bytes first stands

  -- one that is not empty begins with the first byte
  same_first : (x : ℕ) (c : List ℕ) → Begins (x ∷ c) bytes → x ≡ first
  same_first x c b = let on = is in cc (b.is)

  -- no character begins with it
  pub begun_no : Leads first None → Begun bytes None
  begun_no h [] b = false_from_ne_true (is_shown []) (λ e. omega (arith, letter_some [] e))
  begun_no h (x ∷ c) b = rw (same_first x c b) (h c)

  module _ (lead : Lead) (leads : Leads first (Some lead)) where
    -- a character has the size that the first byte says
    only : (c : List ℕ) → Begins c bytes → is_shown c ≡ true → length c ≡ suc (length (behind lead))
    only [] b e = absurd (omega (arith, letter_some [] e))
    only (x ∷ c) b e =
        let shown : is_shown (first ∷ c) ≡ true = rw (← same_first x c b) e in
        ap suc (fits_length (behind lead) c (sym (leads.1 c) ∙ shown))

    -- the bytes are too few
    begun_short : length bytes < suc (length (behind lead)) → Begun bytes None
    begun_short short = λ c b. false_from_ne_true (is_shown c) (λ e. omega (arith, only c b e, begins_length c bytes b))

    -- the bytes of that size are one, or none is
    begun_size : (size : ℕ) (t : Bool) → size ≡ suc (length (behind lead)) → size ≤ length bytes → is_shown (take size bytes) ≡ t
        → Begun bytes (then_some t size)
    begun_size size true n within e = record { some = omega arith; within = within; letter = e }
    begun_size size false n within e = λ c b. false_from_ne_true (is_shown c) (λ shown. absurd (none c b shown))
      where
        none : (c : List ℕ) → Begins c bytes → is_shown c ≡ true → ⊥
        none c b shown =
            let same = begins_take c bytes b in
            let long = only c b shown in
            cc

  pub begun_one : Leads first (Some One) → Begun bytes (Some 1)
  unfolding fits
  begun_one leads = begun_size One leads 1 true refl (omega (arith, ap length is)) (rw is (leads.1 []))

  module _ (size : ℕ) (second : RangeInclusive ℕ) (leads : Leads first (Some (More size second))) where
    of_size : suc (length (behind (More size second))) ≡ size
    of_size = let two = leads.0.0 in omega (arith, length-replicate (size - 2) tail)

    pub begun_few : length bytes < size → Begun bytes None
    begun_few few = begun_short (More size second) leads (rw of_size few)

    shown : (character : List ℕ) → length character ≡ size → get_or character 0 0 ≡ first
        → is_shown character ≡ (is_in (range_of second) (get_or character 1 0) && are_tails (drop 2 character))
    unfolding fits
    shown [] n e = let two = leads.0.0 in absurd (omega arith)
    shown (a ∷ []) n e = let two = leads.0.0 in absurd (omega arith)
    shown (a ∷ b ∷ rest) n e =
        let left : size - 2 ≡ length rest = omega arith in
        rw (e, leads.1 (b ∷ rest), left, fits_tails rest)

    pub begun_many : (character : List ℕ) → character ≡ take size bytes → size ≤ length bytes
        → Begun bytes (then_some (is_in (range_of second) (get_or character 1 0) && are_tails (drop 2 character)) size)
    begun_many character e many =
        begun_size (More size second) leads size _ (sym of_size) many (ap is_shown (sym e) ∙ shown character length_is first_is)
      where
        length_is : length character ≡ size
        length_is = rw e (length-take-le size bytes many)

        first_is : get_or character 0 0 ≡ first
        first_is = let two = leads.0.0 in rw e (get_or-take size bytes 0 0 (omega arith) ∙ ap (λ (b : List ℕ). get_or b 0 0) is)
