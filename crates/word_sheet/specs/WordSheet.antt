-- Document 02, order 2: the second sheet, one line in people's own words, of what judging answers.
-- Assumes nothing.
use Rattle.std.specs.Prelude.{ℕ, zero, suc, ◌+◌, ◌/◌, ◌%◌, Bool, cond, ◌&&◌, ◌≡◌, List, [], ◌∷◌, ◌++◌, ltb, eqb, Err, Ok}
use Rattle.label_bytes.specs.Label.{shortened}
use Rattle.lines.specs.declared.label.Label.{Label}
use Rattle.lines.specs.Labels.{channel_kind, level_kind, bytes_of_label}
use Rattle.putting.specs.Characters.{text}
use Rattle.reading.specs.Plan.{Outcome, Plan, plan_in}
use Rattle.judging.specs.declared.Answer.{Answer}
use Rattle.judging.specs.declared.Breach.{Breach}
use Rattle.judging.specs.declared.Verdict.{Verdict}
use Rattle.judging.specs.declared.Verdict.TheVariants.{Unjudged, Yes, No}
use Rattle.judging.specs.Judge.{Judges}

-- ---- names

-- a number's decimal digits, of which there are no more than the number and one
unfoldable pub digits_of : ℕ → ℕ → List ℕ
digits_of zero n = (48 + n) ∷ []
digits_of (suc more) n =
    let front = digits_of more (n / 10) in
    let all = front ++ ((48 + n % 10) ∷ []) in
    cond (ltb n 10) ((48 + n) ∷ []) all

abbrev pub decimal : ℕ → List ℕ
decimal n = digits_of n n

-- whether a label is that of a thing
abbrev pub is_of : ℕ → ℕ → Label → Bool
is_of kind number label = eqb label.kind kind && eqb label.number number

-- the bytes of a thing's label, and none where it has no label
unfoldable pub label_for : ℕ → ℕ → List Label → List ℕ
label_for kind number [] = []
label_for kind number (label ∷ labels) = cond (is_of kind number label) (bytes_of_label label) (label_for kind number labels)

-- its label is shortened; an unlabelled thing has its word and its number, in decimal
abbrev pub name_by : List ℕ → ℕ → List ℕ → List ℕ
name_by word number [] = word ++ decimal number
name_by word number (b ∷ bytes) = shortened (b ∷ bytes)

abbrev pub level_name : List Label → ℕ → List ℕ
level_name labels level = name_by (text "level ") level (label_for level_kind level labels)

abbrev pub channel_name : List Label → ℕ → List ℕ
channel_name labels channel = name_by (text "channel ") channel (label_for channel_kind channel labels)

-- ---- the line

-- breach HIGH to LOW on CHANNEL: OBJECT
abbrev pub breach_line : List Label → Breach → List ℕ
breach_line labels b =
    text "breach "
    ++ (level_name labels b.higher
    ++ (text " to "
    ++ (level_name labels b.lower
    ++ (text " on "
    ++ (channel_name labels b.channel
    ++ (text ": "
    ++ (channel_name labels b.handle
    ++ text "\n")))))))

-- any refusal gives the same
abbrev pub word_sheet_of : List Label → Verdict → List ℕ
word_sheet_of labels Unjudged = text "refused\n"
word_sheet_of labels Yes = text "clear\n"
word_sheet_of labels (No b) = breach_line labels b

-- the bytes that suffice for every word sheet
abbrev pub longest_words : ℕ
longest_words = 114

-- the labels of what a text reads as
abbrev pub labels_of : Outcome Plan → List Label
labels_of (Err f) = []
labels_of (Ok plan) = plan.labels

-- the word sheet of a text within an allowance of rounds: that of what judging answers
pub record WordSheetFor (plan : List ℕ) (allowance : ℕ) (sheet : List ℕ) : Type 0 where
  pub answer : Answer
  pub judged : Judges (plan_in plan) allowance answer
  pub is : sheet ≡ word_sheet_of (labels_of (plan_in plan)) answer.verdict
