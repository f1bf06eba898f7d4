-- What the programs answer: the front of an input has the sheet of the whole, and the contracts admit one answer each. Assumes nothing.
use Prim.Native.Nat.{ℕ, ◌<◌, ◌≤◌}
use mathlib.Core.Path.{◌≡◌, sym, ap, subst, ◌∙◌}
use mathlib.Core.List.{List}
use native.Mathlib.Decide.{dec_le}
use native.Mathlib.Omega.{arith}
use lib.ListN.{length, take, length-take}
use lib.Seq.{take_all}
use Rattle.std.specs.Prelude.{Result, Ok, Err, IsOkAnd}
use Rattle.limits.specs.Limits.{longest}
use Rattle.reading.proofs.Promise.{cut_reads}
use Rattle.judging.specs.Judge.{Judges}
use Rattle.solving.specs.Rounds.{round_ceiling}
use Rattle.sheet.specs.declared.Sheet.{Sheet}
use Rattle.sheet.proofs.Writing.{OneWhole}
use Rattle.sheet.proofs.Demands.{whole_once}
use Rattle.reaching.specs.Reach.{Reaches}
use Rattle.reach_sheet.proofs.Reached.{whole_once as reach_once}
use Rattle.word_sheet.specs.WordSheet.{word_sheet_of, labels_of}
use Rattle.word_sheet.proofs.Words.{whole_once as words_once}
use Rattle.inputs.specs.declared.Asked.{Asked}
use Rattle.inputs.specs.declared.Asked.TheVariants.{Flow, Reach, Words}
use Rattle.inputs.specs.declared.Fault.{Fault}
use Rattle.inputs.specs.declared.Sheets.{Sheets}
use Rattle.inputs.specs.declared.header.Header.{Header}
use Rattle.inputs.specs.Header.{header_of}
use Rattle.inputs.specs.Answers.{AskedFor, IsAsked, Answered, AnswersInput, AnswersHeader, AnswersRecord}

-- ---- a whole input

-- a text has the sheet of its front
sheet_of_front : (asked : Asked) (n : ℕ) (input : List ℕ) (allowance : ℕ) (sheet : List ℕ) → longest < n → AskedFor asked (take n input) allowance sheet
    → AskedFor asked input allowance sheet
sheet_of_front Flow n input allowance sheet more w =
    let judged = subst (λ o. Judges o allowance w.answer) (cut_reads n input more) w.judged in
    record { answer = w.answer; judged = judged; is = w.is }
sheet_of_front Reach n input allowance sheet more w =
    let reaches = subst (λ o. Reaches o allowance w.received) (cut_reads n input more) w.reaches in
    record { received = w.received; reaches = reaches; is = w.is }
sheet_of_front Words n input allowance sheet more w =
    let same = cut_reads n input more in
    let judged = subst (λ o. Judges o allowance w.answer) same w.judged in
    record { answer = w.answer; judged = judged; is = w.is ∙ ap (λ o. word_sheet_of (labels_of o) w.answer.verdict) same }

of_front_lem : (asked : Asked) (n : ℕ) (input : List ℕ) (allowance : ℕ) (r : Sheet) → longest < n → IsAsked asked (take n input) allowance r
    → IsAsked asked input allowance r
of_front_lem asked n input allowance r more w =
    record { sheet = w.sheet; of_text = sheet_of_front asked n input allowance w.sheet more w.of_text; fills = w.fills }

-- and one only
asked_once : (asked : Asked) → OneWhole (AskedFor asked)
asked_once Flow = whole_once
asked_once Reach = reach_once
asked_once Words = words_once

-- what is kept of an input has the sheet of the whole
pub front_answers : (asked : Asked) (front kept : List ℕ) (size : ℕ) (r : Sheet) → longest < length front → kept ≡ take size front
    → IsAsked asked kept round_ceiling r → AnswersInput asked front size r
front_answers asked front kept size r more front_part w input e =
    of_front_lem asked (length front) input round_ceiling r more (subst (λ t. IsAsked asked t round_ceiling r) (front_part ∙ sym e) w)

-- any two sheets that the contract admits are equal: the front is an input too
pub input_once : (asked : Asked) (front : List ℕ) (size : ℕ) (r q : Sheet) → AnswersInput asked front size r → AnswersInput asked front size q → r ≡ q
input_once asked front size r q a b =
    let kept = take size front in
    let whole = take_all (length front) kept (rw (length-take size front) (omega arith)) in
    asked_once asked kept round_ceiling r q (a kept whole) (b kept whole)

-- ---- a record

-- any two answers that the contract admits are equal
pub record_once : (line text : List ℕ) (r q : Result Sheets Fault) → AnswersRecord line text r → AnswersRecord line text q → r ≡ q
record_once line text = go (header_of line)
  where
    whole : (its : List ℕ) (allowance : ℕ) (r q : Result Sheets Fault) → IsOkAnd r (Answered its allowance) → IsOkAnd q (Answered its allowance) → r ≡ q
    whole its allowance (Ok r) (Ok q) a b = λ i. Ok (record {
      sheet = whole_once its allowance r.sheet q.sheet a.sheet b.sheet i;
      reach = reach_once its allowance r.reach q.reach a.reach b.reach i;
      words = words_once its allowance r.words q.words a.words b.words i;
    })
    whole its allowance (Ok r) (Err f) a b = absurd b
    whole its allowance (Err f) q a b = absurd a

    go : (h : Result Header Fault) (r q : Result Sheets Fault) → AnswersHeader h text r → AnswersHeader h text q → r ≡ q
    go (Err fault) r q a b = a ∙ sym b
    go (Ok header) r q a b = by_length (dec_le header.size (length text))
      where
        by_length : Dec (header.size ≤ length text) → r ≡ q
        by_length (yes h) = whole (take header.size text) header.allowance r q (a.1 h) (b.1 h)
        by_length (no n) = a.0 (omega arith) ∙ sym (b.0 (omega arith))
