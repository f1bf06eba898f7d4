-- The word sheet of a text within an allowance: it is put part by part, there is one only, which is computed, 114 bytes always suffice, and it is
-- well-formed UTF-8. A breach goes back to the answer that judging gives, which lies within the head's limits, and a label to what reading promises.
-- Assumes nothing.
use Prim.Native.Nat.{ℕ, ◌+◌, ◌-◌, ◌/◌, ◌%◌, ◌<◌, ◌≤◌}
use mathlib.Core.Bool.{Bool, true, false, cond}
use mathlib.Core.Path.{◌≡◌, refl, sym, ap, subst⁻¹, ◌∙◌}
use mathlib.Core.List.{List, [], ◌∷◌, ◌++◌}
use mathlib.Core.Logic.{◌≢◌, ⊎_elim}
use native.Mathlib.Decide.{dec_lt}
use native.Mathlib.Omega.{arith}
use borrow.Author.Tests.{lt-ltb}
use lib.ListN.{length, take, get_or, replicate, length-append}
use lib.Seq.{take-append_seam}
use Rattle.std.specs.Prelude.{Err, Ok}
use Rattle.std.specs.List.{All, AllByRecursion as ByRecursion}
use Rattle.std.proofs.lemmas.List.Elements.{All-from_recursion, All-nil, All-same}
use Rattle.limits.specs.Limits.{most_channels, most_labels, longest_short}
use Rattle.label_bytes.specs.Characters.{WellFormed}
use Rattle.label_bytes.specs.Label.{IsLabel, shortened}
use Rattle.label_bytes.proofs.Labels.{shortened_is, shortened_label, label_well_formed, well_formed_append, all_plain, plain_well_formed}
use Rattle.lines.specs.declared.Head.{Head}
use Rattle.lines.specs.declared.label.Label.{Label}
use Rattle.lines.specs.Labels.{channel_kind, level_kind, bytes_of_label, place_among}
use Rattle.lines.specs.Values.{padded, no_label}
use Rattle.lines.proofs.Padded.{padded_length}
use Rattle.putting.specs.Characters.{text}
use Rattle.putting.specs.Put.{Put}
use Rattle.reading.specs.declared.Reading.{Reading}
use Rattle.reading.specs.declared.Refusal.{Refusal}
use Rattle.reading.specs.Plan.{Outcome, Plan, plan_in, no_head, reading_of}
use Rattle.reading.specs.Promise.{LabelsWithin, Kept}
use Rattle.reading.proofs.Promise.{kept}
use Rattle.solving.specs.declared.Solved.{Solved}
use Rattle.solving.specs.Solutions.{out_set, LiesWithin, members_in}
use Rattle.solving.specs.Solve.{Answered, RoundsSpent, Solves}
use Rattle.judging.specs.declared.Answer.{Answer}
use Rattle.judging.specs.declared.Breach.{Breach}
use Rattle.judging.specs.declared.Verdict.{Verdict}
use Rattle.judging.specs.declared.Verdict.TheVariants.{Unjudged, Yes, No}
use Rattle.judging.specs.Verdict.{IsBreach}
use Rattle.judging.specs.Judge.{VerdictBeside, Judges}
use Rattle.judging.proofs.Demands.{once as answer_once, computed as answer_computed}
use Rattle.sheet.specs.declared.made.Sheet.{Sheet}
use Rattle.sheet.specs.Sheet.{SheetFor, sheet_of}
use Rattle.sheet.specs.Write.{longest_sheet, IsWhole}
use Rattle.sheet.proofs.Writing.{OneSheet, OneWritten, OneWhole, one_written, one_whole, whole_put}
use Rattle.word_sheet.specs.WordSheet.{decimal, is_of, label_for, name_by, level_name, channel_name, breach_line, word_sheet_of, longest_words, labels_of, WordSheetFor}
use Rattle.word_sheet.specs.inner.Compute.{word_sheet_for}
use Rattle.word_sheet.specs.inner.Working.{HasBytes, Listed, TwoDigits, BreachTwoDigits, VerdictTwoDigits, PutName}
use Rattle.word_sheet.proofs.Naming.{one_digit, two_digits, name_most, name_then}

-- ---- the labels of a reading

-- each of a plan has bytes
within_bytes : (h : Head) (least : ℕ) (before labels : List Label) → LabelsWithin h least before labels → ByRecursion HasBytes labels
within_bytes h least before [] w = tt
within_bytes h least before (label ∷ labels) w =
    (record { some = w.0.some }, within_bytes h (place_among label.kind label.number + 1) _ labels w.2)

-- those of a plan, in an array
pub padded_listed : (h : Head) (least : ℕ) (before labels : List Label) → LabelsWithin h least before labels → length labels ≤ most_labels
    → Listed (padded most_labels no_label labels) (length labels)
unfolding padded
padded_listed h least before labels within most =
    let blank = replicate (most_labels - length labels) no_label in
    record {
      sized = padded_length most_labels no_label labels most;
      counted = most;
      fit = λ i d l. (get_or (padded most_labels no_label labels) i d).sized;
      have_bytes = All-same HasBytes _ _ (take-append_seam labels blank) (All-from_recursion HasBytes labels (within_bytes h least before labels within));
    }

-- those of a text, by what is read of it
module _ (plan : List ℕ) (r : Reading) (e : r ≡ reading_of (plan_in plan)) where
  pub read_listed : Listed r.labels r.labelled
  read_listed = subst⁻¹ (λ s. Listed s.labels s.labelled) e (go (plan_in plan) (kept plan))
    where
      go : (o : Outcome Plan) → Kept o → Listed (reading_of o).labels (reading_of o).labelled
      go (Err f) k = record { sized = refl; counted = omega arith; fit = λ i d l. absurd (omega arith); have_bytes = All-nil HasBytes }
      go (Ok p) k = padded_listed p.head 0 [] p.labels k.labels k.labelled

  pub read_few : r.labelled ≤ most_labels
  read_few = read_listed.counted

  pub read_labels_lem : take r.labelled r.labels ≡ labels_of (plan_in plan)
  unfolding padded
  read_labels_lem = ap (λ (s : Reading). take s.labelled s.labels) e ∙ go (plan_in plan)
    where
      go : (o : Outcome Plan) → take (reading_of o).labelled (reading_of o).labels ≡ labels_of o
      go (Err f) = refl
      go (Ok p) = take-append_seam p.labels (replicate (most_labels - length p.labels) no_label)

  pub read_bytes : All HasBytes (take r.labelled r.labels)
  read_bytes = read_listed.have_bytes

-- ---- the numbers of a breach

lies_short : (h : Head) → h.channels ≤ most_channels → {lower : ℕ → ℕ → Type 0} (s : Solved) (b : Breach)
    → LiesWithin h (members_in s.solution) → IsBreach lower (members_in s.solution) b → BreachTwoDigits b
lies_short h few s b within w = record {
  higher = omega (arith, w.sent.0);
  lower = omega (arith, w.received.0);
  channel = omega (arith, w.sent.1);
  handle = omega (arith, (within (out_set b.higher b.channel b.handle) w.sent).2);
}

-- a refused text has no breach
refused_none : (s : Solved) (b : Breach) → s.refusal.number ≢ 0 → VerdictBeside s (No b) → ⊥
refused_none s b n beside = let none = beside.refused n in let z : ◌≡◌ {A = ℕ} 0 1 = cc in omega arith

-- each has at most two digits, in whatever judging answers
pub verdict_two_digits : (plan : List ℕ) (allowance : ℕ) (a : Answer) → Judges (plan_in plan) allowance a → VerdictTwoDigits a.verdict
verdict_two_digits plan allowance a j = go (plan_in plan) (kept plan) j.solved a.verdict j.verdict
  where
    number : {r : Solved} → a.solved ≡ r → a.solved.refusal.number ≡ r.refusal.number
    number e = ap (λ (s : Solved). s.refusal.number) e

    go : (o : Outcome Plan) → Kept o → Solves o allowance a.solved → (v : Verdict) → VerdictBeside a.solved v → VerdictTwoDigits v
    go o k s Unjudged beside = tt
    go o k s Yes beside = tt
    go (Err f) k s (No b) beside = absurd (refused_none a.solved b (λ e. omega (arith, number s, k.0.0)) beside)
    go (Ok plan) k s (No b) beside = ⊎_elim judged spent s
      where
        judged : Answered plan allowance a.solved → BreachTwoDigits b
        judged w =
            let on = beside.answered (ap (λ (f : Refusal). f.number) w.refusal) in
            lies_short plan.head k.head.channels a.solved b w.within ((on.breach b).0 refl).breach

        spent : RoundsSpent plan allowance a.solved → BreachTwoDigits b
        spent w = absurd (refused_none a.solved b (λ e. omega (arith, number w.is)) beside)

-- ---- the sheet, as it is put

pub breach_put : (labels : List Label) (b : Breach) {before first second third fourth after : List ℕ} {low on handle line end : ℕ}
    → PutName before 0 (text "breach ") (level_name labels b.higher) first low
    → PutName first low (text " to ") (level_name labels b.lower) second on
    → PutName second on (text " on ") (channel_name labels b.channel) third handle
    → PutName third handle (text ": ") (channel_name labels b.handle) fourth line → Put fourth line (text "\n") after end
    → Put before 0 (breach_line labels b) after end
breach_put labels b p q r s t = name_then p (name_then q (name_then r (name_then s t)))

module _ {plan : List ℕ} {allowance : ℕ} {a : Answer} (judged : Judges (plan_in plan) allowance a) where
  pub its_sheet : WordSheetFor plan allowance (word_sheet_of (labels_of (plan_in plan)) a.verdict)
  its_sheet = record { answer = a; judged = judged; is = refl }

-- a text has one word sheet within an allowance
pub word_sheet_once : OneSheet WordSheetFor
word_sheet_once plan allowance s t a b =
    let same = answer_once plan allowance a.answer b.answer a.judged b.judged in
    a.is ∙ (ap (λ (r : Answer). word_sheet_of (labels_of (plan_in plan)) r.verdict) same ∙ sym b.is)

-- it says what the sheet says: both are of one answer
pub words_beside : {plan : List ℕ} {allowance : ℕ} {sheet words : List ℕ} → SheetFor plan allowance sheet
    → (w : WordSheetFor plan allowance words) → sheet ≡ sheet_of w.answer
words_beside {plan} {allowance} s w = s.is ∙ ap sheet_of (answer_once plan allowance s.answer w.answer s.judged w.judged)

-- it is the computed one
pub words_computed : (plan : List ℕ) (allowance : ℕ) → WordSheetFor plan allowance (word_sheet_for plan allowance)
unfolding word_sheet_for
words_computed plan allowance = its_sheet (answer_computed plan allowance)

-- ---- its length

level_most : (labels : List Label) (level : ℕ) → TwoDigits level → length (level_name labels level) ≤ longest_short
level_most labels level short = name_most (text "level ") level (label_for level_kind level labels) short (omega arith)

channel_most : (labels : List Label) (channel : ℕ) → TwoDigits channel → length (channel_name labels channel) ≤ longest_short
channel_most labels channel short = name_most (text "channel ") channel (label_for channel_kind channel labels) short (omega arith)

breach_most : (labels : List Label) (b : Breach) → BreachTwoDigits b → length (breach_line labels b) ≤ longest_words
breach_most labels b short =
    let higher = level_most labels b.higher short.higher in
    let lower = level_most labels b.lower short.lower in
    let channel = channel_most labels b.channel short.channel in
    let handle = channel_most labels b.handle short.handle in
    let after_channel = text ": " ++ (channel_name labels b.handle ++ text "\n") in
    let after_lower = text " on " ++ (channel_name labels b.channel ++ after_channel) in
    let after_higher = text " to " ++ (level_name labels b.lower ++ after_lower) in
    let first = length-append (level_name labels b.higher) after_higher in
    let second = length-append (level_name labels b.lower) after_lower in
    let third = length-append (channel_name labels b.channel) after_channel in
    let fourth = length-append (channel_name labels b.handle) (text "\n") in
    omega arith

-- 114 bytes always suffice
pub words_most : {plan : List ℕ} {allowance : ℕ} {sheet : List ℕ} → WordSheetFor plan allowance sheet → length sheet ≤ longest_words
words_most {plan} {allowance} {sheet} w = go w.answer.verdict (verdict_two_digits plan allowance w.answer w.judged) w.is
  where
    go : (v : Verdict) → VerdictTwoDigits v → sheet ≡ word_sheet_of (labels_of (plan_in plan)) v → length sheet ≤ longest_words
    go Unjudged short e = omega (arith, ap length e)
    go Yes short e = omega (arith, ap length e)
    go (No b) short e = omega (arith, ap length e, breach_most (labels_of (plan_in plan)) b short)

-- put into a blank array, it is whole
pub words_whole : (plan : List ℕ) (allowance : ℕ) (a : Answer) (r : Sheet) → Judges (plan_in plan) allowance a
    → Put (replicate longest_sheet 0) 0 (word_sheet_of (labels_of (plan_in plan)) a.verdict) r.bytes r.size → IsWhole WordSheetFor plan allowance r
words_whole plan allowance a r judged p =
    let its = its_sheet judged in
    whole_put (word_sheet_of (labels_of (plan_in plan)) a.verdict) r (omega (arith, words_most its)) its p

-- ---- its bytes

decimal_formed : (n : ℕ) → TwoDigits n → WellFormed (decimal n)
decimal_formed n short = go (dec_lt n 10)
  where
    go : Dec (n < 10) → WellFormed (decimal n)
    go (yes h) =
        let digit : List ℕ = (48 + n) ∷ [] in
        let plain : all_plain digit ≡ true = simp (lt-ltb (48 + n) 0x80 (omega arith)) in
        subst⁻¹ WellFormed (one_digit n h) (plain_well_formed digit plain)
    go (no h) =
        let digits : List ℕ = (48 + n / 10) ∷ (48 + n % 10) ∷ [] in
        let plain : all_plain digits ≡ true = simp (lt-ltb (48 + n / 10) 0x80 (omega arith), lt-ltb (48 + n % 10) 0x80 (omega arith)) in
        subst⁻¹ WellFormed (two_digits n (omega arith) short) (plain_well_formed digits plain)

-- a label that is found is one
abbrev Labelling : List Label → Type 0
Labelling labels = (kind number : ℕ) → 0 < length (label_for kind number labels) → IsLabel (label_for kind number labels)

within_labelling : (h : Head) (least : ℕ) (before labels : List Label) → LabelsWithin h least before labels → Labelling labels
unfolding label_for
within_labelling h least before [] w kind number some = absurd (omega arith)
within_labelling h least before (label ∷ labels) w kind number some =
    go (is_of kind number label) (within_labelling h (place_among label.kind label.number + 1) _ labels w.2 kind number) some
  where
    go : (b : Bool) → (0 < length (label_for kind number labels) → IsLabel (label_for kind number labels))
        → 0 < length (cond b (bytes_of_label label) (label_for kind number labels)) → IsLabel (cond b (bytes_of_label label) (label_for kind number labels))
    go true behind some = w.0.well_formed
    go false behind some = behind some

plan_labelling : (o : Outcome Plan) → Kept o → Labelling (labels_of o)
plan_labelling (Err f) k = within_labelling no_head 0 [] [] tt
plan_labelling (Ok p) k = within_labelling p.head 0 [] p.labels k.labels

name_formed : (word : List ℕ) (number : ℕ) (bytes : List ℕ) → all_plain word ≡ true → TwoDigits number → (0 < length bytes → IsLabel bytes)
    → WellFormed (name_by word number bytes)
name_formed word number [] plain short label =
    well_formed_append word (decimal number) (plain_well_formed word plain) (decimal_formed number short)
name_formed word number (b ∷ bytes) plain short label =
    let all = b ∷ bytes in
    let front = shortened_label all (shortened all) (label (omega arith)) (omega arith) (shortened_is all) in
    label_well_formed (shortened all) front.0

module _ (labels : List Label) (labelling : Labelling labels) (b : Breach) (short : BreachTwoDigits b) where
  level_formed : (level : ℕ) → TwoDigits level → WellFormed (level_name labels level)
  level_formed level s = name_formed (text "level ") level (label_for level_kind level labels) refl s (labelling level_kind level)

  channel_formed : (channel : ℕ) → TwoDigits channel → WellFormed (channel_name labels channel)
  channel_formed channel s = name_formed (text "channel ") channel (label_for channel_kind channel labels) refl s (labelling channel_kind channel)

  -- characters, a name, and what is behind it
  parts_formed : (front name rest : List ℕ) → all_plain front ≡ true → WellFormed name → WellFormed rest → WellFormed (front ++ (name ++ rest))
  parts_formed front name rest plain n r =
      well_formed_append front (name ++ rest) (plain_well_formed front plain) (well_formed_append name rest n r)

  breach_formed : WellFormed (breach_line labels b)
  breach_formed =
      let end = plain_well_formed (text "\n") refl in
      let handle = parts_formed (text ": ") _ _ refl (channel_formed b.handle short.handle) end in
      let channel = parts_formed (text " on ") _ _ refl (channel_formed b.channel short.channel) handle in
      let lower = parts_formed (text " to ") _ _ refl (level_formed b.lower short.lower) channel in
      parts_formed (text "breach ") _ _ refl (level_formed b.higher short.higher) lower

-- every word sheet is well-formed UTF-8
pub words_formed : {plan : List ℕ} {allowance : ℕ} {sheet : List ℕ} → WordSheetFor plan allowance sheet → WellFormed sheet
words_formed {plan} {allowance} {sheet} w = subst⁻¹ WellFormed w.is (go w.answer.verdict (verdict_two_digits plan allowance w.answer w.judged))
  where
    go : (v : Verdict) → VerdictTwoDigits v → WellFormed (word_sheet_of (labels_of (plan_in plan)) v)
    go Unjudged short = plain_well_formed (text "refused\n") refl
    go Yes short = plain_well_formed (text "clear\n") refl
    go (No b) short = breach_formed (labels_of (plan_in plan)) (plan_labelling (plan_in plan) (kept plan)) b short

-- ---- outcomes

-- any two that the contracts admit are equal
pub once : OneWritten WordSheetFor
once = one_written WordSheetFor word_sheet_once

pub whole_once : OneWhole WordSheetFor
whole_once = one_whole WordSheetFor word_sheet_once
