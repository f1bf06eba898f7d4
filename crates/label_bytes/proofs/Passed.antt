-- The characters passed, up to an end: with the longest beginning of what is left in the room that is left, they are the longest of the whole. So they
-- are that by themselves where no further character fits.
-- Assumes nothing.
use Rattle.std.proofs.Common.{ℕ, ◌+◌, ◌-◌, ◌≤◌, ◌<◌, ◌≡◌, sym, ap, subst, ◌∙◌, true, List, [], ◌++◌, None, append_assoc, append-nil, length, take, drop}
use mathlib.Core.Bool.{false≢true}
use native.Mathlib.Omega.{arith}
use lib.ListN.{length-drop, take-append-drop}
use lib.Seq.{length-take-le, take-add, drop-drop}
use Rattle.label_bytes.specs.Label.{is_shown, Begins, LongestBeginning}
use Rattle.label_bytes.specs.inner.Working.{InFront, Begun, WholeTo}
use Rattle.label_bytes.proofs.Letters.{letter_once}
use Rattle.label_bytes.proofs.Beginnings.{longest_none, longest_more}

pub record Passed (most : ℕ) (bytes : List ℕ) (end : ℕ) : Type 0 where
  pub within : end ≤ length bytes
  pub short : end ≤ most
  pub goes_on : (rest : List ℕ) → LongestBeginning (most - end) (drop end bytes) rest → LongestBeginning most bytes (take end bytes ++ rest)

module _ (most : ℕ) (bytes : List ℕ) where
  pub passed_none : Passed most bytes 0
  passed_none =
      let all : most - 0 ≡ most = omega arith in
      record { within = omega arith; short = omega arith; goes_on = λ rest l. rw all at l }

  -- ---- at a position, with what stands there

  module _ (end : ℕ) (p : Passed most bytes end) where
    stays : LongestBeginning (most - end) (drop end bytes) [] → WholeTo most bytes end
    stays l = record { within = p.within; longest = subst (LongestBeginning most bytes) (append-nil (take end bytes)) (p.goes_on [] l) }

    -- no character stands there
    pub passed_no : Begun (drop end bytes) None → WholeTo most bytes end
    passed_no none = stays (longest_none (most - end) (drop end bytes) (λ c e b. absurd (false≢true (sym (none c b) ∙ e))))

    module _ (size : ℕ) (begun : InFront size (drop end bytes)) where
      here : List ℕ
      here = take size (drop end bytes)

      -- the character is too long
      pub passed_over : most - end < size → WholeTo most bytes end
      unfolding here
      passed_over over = stays (longest_none (most - end) (drop end bytes) long)
        where
          long : (c : List ℕ) → is_shown c ≡ true → Begins c (drop end bytes) → most - end < length c
          long c e b =
              let whole = b.is ∙ sym (take-append-drop size (drop end bytes)) in
              let same = (letter_once c here b.rest (drop size (drop end bytes)) e begun.letter whole).0 in
              omega (arith, ap length same, length-take-le size (drop end bytes) begun.within)

      -- it is passed
      pub passed_more : size ≤ most - end → Passed most bytes (end + size)
      unfolding here
      passed_more fits = record {
        within = omega (arith, begun.within, length-drop end bytes, p.within);
        short = omega (arith, p.short);
        goes_on = λ rest l. rw (take-add end size bytes, append_assoc) (p.goes_on (here ++ rest) (behind rest l));
      }
        where
          behind : (rest : List ℕ) → LongestBeginning (most - (end + size)) (drop (end + size) bytes) rest → LongestBeginning (most - end) (drop end bytes) (here ++ rest)
          behind rest l =
              let room : length here + (most - (end + size)) ≡ most - end = omega (arith, length-take-le size (drop end bytes) begun.within, p.short) in
              let text : here ++ drop (end + size) bytes ≡ drop end bytes = rw (← drop-drop size end bytes) (take-append-drop size (drop end bytes)) in
              rw (room, text) at (longest_more (most - (end + size)) here (drop (end + size) bytes) rest begun.letter l)
