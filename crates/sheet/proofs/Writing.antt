-- Writing a sheet, whichever is meant: the two ways in which it is written, and whole sheets in an array, which are copied to a buffer. Where a text
-- has one sheet within an allowance, each contract admits one outcome: that of one sheet is told by whether it fits. Assumes nothing.
use Prim.Native.Nat.{ℕ, ◌+◌, ◌-◌, ◌<◌, ◌≤◌}
use mathlib.Core.Path.{◌≡◌, refl, sym, ap, subst, ◌∙◌}
use mathlib.Core.List.{List, [], ◌∷◌, ◌++◌, append-nil}
use mathlib.Core.HLevel.{is_prop→PathP}
use native.Mathlib.Bridge.{le_prop}
use native.Mathlib.Decide.{dec_le}
use native.Mathlib.Omega.{arith}
use lib.ListN.{length, drop, take, get_or, replicate, length-replicate, drop_of_length-le}
use lib.Seq.{sets-eq, take-append_seam, length-take-le}
use Rattle.std.specs.Prelude.{Ok, Err}
use Rattle.lines.specs.Values.{padded}
use Rattle.text.proofs.Lists.{drop_replicate}
use Rattle.putting.specs.Put.{Put}
use Rattle.sheet.specs.declared.made.Sheet.{Sheet}
use Rattle.sheet.specs.Write.{Written, values_of, length_in, Wrote, Writes, longest_sheet, Fills, IsWhole, Counted}

-- ---- the two ways of writing

module _ {sheet before : List ℕ} where
  pub short_wrote : {size : ℕ} → size ≡ length sheet → length before < size → Wrote sheet before (Err (record { needed = size })) before
  short_wrote e l = record { longer = λ _. (ap (λ n. 15 ∷ n ∷ []) e, refl); otherwise = λ h. absurd (omega arith) }

  pub whole_wrote : {after : List ℕ} {next : ℕ} → length sheet ≤ length before → Put before 0 sheet after next → Wrote sheet before (Ok next) after
  whole_wrote l p = record {
    longer = λ h. absurd (omega arith);
    otherwise = λ h. (ap (λ n. 0 ∷ n ∷ []) (p.behind ∙ from), p.stands ∙ (sets-eq sheet before 0 (omega arith) ∙ ap (λ n. sheet ++ drop n before) from));
  }
    where
      from : 0 + length sheet ≡ length sheet
      from = omega arith

-- ---- outcomes

once_values : (w v : Written) → values_of w ≡ values_of v → w ≡ v
once_values (Ok n) (Ok m) e = cc
once_values (Ok n) (Err short) e = cc
once_values (Err short) (Ok m) e = cc
once_values (Err short) (Err other) e = let same : short.needed ≡ other.needed = cc in λ i. Err (record { needed = same i })

-- of one sheet there is one outcome
wrote_once : (s t before : List ℕ) (w v : Written) (after later : List ℕ) → s ≡ t → Wrote s before w after → Wrote t before v later
    → (w ≡ v) × (after ≡ later)
wrote_once s t before w v after later same a b = go (dec_le (length s) (length before))
  where
    go : Dec (length s ≤ length before) → (w ≡ v) × (after ≡ later)
    go (yes h) =
        let p = a.otherwise h in
        let q = b.otherwise (omega (arith, ap length same)) in
        let values = p.0 ∙ (ap (λ l. 0 ∷ length l ∷ []) same ∙ sym q.0) in
        (once_values w v values, p.1 ∙ (ap (λ l. l ++ drop (length l) before) same ∙ sym q.1))
    go (no n) =
        let p = a.longer (omega arith) in
        let q = b.longer (omega (arith, ap length same)) in
        let values = p.0 ∙ (ap (λ l. 15 ∷ length l ∷ []) same ∙ sym q.0) in
        (once_values w v values, p.1 ∙ sym q.1)

module _ {sheet before : List ℕ} {returned : Written} {after : List ℕ} (w : Wrote sheet before returned after) where
  -- a buffer of exactly the sheet's length is enough, and holds just the sheet
  pub exact : length before ≡ length sheet → (returned ≡ Ok (length sheet)) × (after ≡ sheet)
  exact e =
      let p = w.otherwise (omega arith) in
      let past : drop (length sheet) before ≡ [] = drop_of_length-le before {i = length sheet} (omega arith) in
      (once_values returned (Ok (length sheet)) p.0, p.1 ∙ (ap (λ l. sheet ++ l) past ∙ append-nil sheet))

  -- one byte less is refused 15, and the buffer is unchanged
  pub one_less : length before + 1 ≡ length sheet → (returned ≡ Err (record { needed = length sheet })) × (after ≡ before)
  one_less e =
      let p = w.longer (omega arith) in
      (once_values returned (Err (record { needed = length sheet })) p.0, p.1)

  -- the length is returned in either outcome
  pub length_is : length_in returned ≡ length sheet
  length_is = go (dec_le (length sheet) (length before))
    where
      go : Dec (length sheet ≤ length before) → length_in returned ≡ length sheet
      go (yes h) = ap (λ values. get_or values 1 0) (w.otherwise h).0
      go (no n) = ap (λ values. get_or values 1 0) (w.longer (omega arith)).0

-- ---- whole sheets

-- two with the same bytes and size are equal
pub same_sheet : (r q : Sheet) → r.bytes ≡ q.bytes → r.size ≡ q.size → r ≡ q
same_sheet r q bytes size = λ i. record {
  bytes = bytes i;
  size = size i;
  counted = is_prop→PathP (λ j. size j ≤ length (bytes j)) (λ j. le_prop) r.counted q.counted i;
}

fills_once : (s t : List ℕ) (r q : Sheet) → s ≡ t → Fills s r → Fills t q → r ≡ q
fills_once s t r q same a b =
    same_sheet r q (a.bytes ∙ (ap (padded longest_sheet 0) same ∙ sym b.bytes)) (a.size ∙ (ap length same ∙ sym b.size))

-- a sheet's size counts bytes of its array, and the front part that it counts has as many
pub counted : {sheet : List ℕ} {r : Sheet} → Fills sheet r → Counted r
counted {sheet} {r} w = (r.counted, sym (length-take-le r.size r.bytes r.counted))

-- the front of the array is the sheet
pub front_is : {sheet : List ℕ} {r : Sheet} → Fills sheet r → take r.size r.bytes ≡ sheet
unfolding padded
front_is {sheet} {r} w =
    ap (λ n. take n r.bytes) w.size ∙ (ap (take (length sheet)) w.bytes ∙ take-append_seam sheet (replicate (longest_sheet - length sheet) 0))

-- ---- the sheet that is meant

-- a text has one sheet within an allowance
abbrev pub OneSheet : (List ℕ → ℕ → List ℕ → Type 0) → Type 0
OneSheet IsSheet = (text : List ℕ) (allowance : ℕ) (s t : List ℕ) → IsSheet text allowance s → IsSheet text allowance t → s ≡ t

-- any two outcomes that the contract admits of writing it are equal, and so are any two whole sheets
abbrev pub OneWritten : (List ℕ → ℕ → List ℕ → Type 0) → Type 0
OneWritten IsSheet =
    (text : List ℕ) (allowance : ℕ) (before : List ℕ) (w v : Written) (after later : List ℕ)
    → Writes IsSheet text allowance before w after
    → Writes IsSheet text allowance before v later
    → (w ≡ v) × (after ≡ later)

abbrev pub OneWhole : (List ℕ → ℕ → List ℕ → Type 0) → Type 0
OneWhole IsSheet =
    (text : List ℕ) (allowance : ℕ) (r q : Sheet) → IsWhole IsSheet text allowance r → IsWhole IsSheet text allowance q → r ≡ q

module _ (IsSheet : List ℕ → ℕ → List ℕ → Type 0) where
  pub one_written : OneSheet IsSheet → OneWritten IsSheet
  one_written one text allowance before w v after later a b =
      wrote_once a.sheet b.sheet before w v after later (one text allowance _ _ a.of_text b.of_text) a.wrote b.wrote

  pub one_whole : OneSheet IsSheet → OneWhole IsSheet
  one_whole one text allowance r q a b = fills_once a.sheet b.sheet r q (one text allowance _ _ a.of_text b.of_text) a.fills b.fills

module _ {IsSheet : List ℕ → ℕ → List ℕ → Type 0} {text : List ℕ} {allowance : ℕ} where
  -- put into a blank array, a sheet is whole
  pub whole_put : (sheet : List ℕ) (r : Sheet) → length sheet ≤ longest_sheet → IsSheet text allowance sheet
      → Put (replicate longest_sheet 0) 0 sheet r.bytes r.size → IsWhole IsSheet text allowance r
  unfolding padded
  whole_put sheet r most is p =
      let blank : List ℕ = replicate longest_sheet 0 in
      let room : length sheet ≤ length blank = rw length-replicate most in
      let wrote = (whole_wrote room p).otherwise room in
      let zeros = ap (λ rest. sheet ++ rest) (drop_replicate (length sheet) longest_sheet 0) in
      record { sheet = sheet; of_text = is; fills = record { size = omega (arith, p.behind); bytes = wrote.1 ∙ zeros } }

  -- copied to a buffer, a whole sheet is written there
  pub copied : {r : Sheet} {before after : List ℕ} {returned : Written} → IsWhole IsSheet text allowance r
      → Wrote (take r.size r.bytes) before returned after → Writes IsSheet text allowance before returned after
  copied {r} {before} {after} {returned} w wrote = record {
    sheet = w.sheet;
    of_text = w.of_text;
    wrote = subst (λ s. Wrote s before returned after) (front_is w.fills) wrote;
  }
