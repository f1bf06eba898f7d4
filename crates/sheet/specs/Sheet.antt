-- Document 01, 'The sheet': its lines in order, a line as bytes, and the whole as characters.
-- Assumes nothing.
use Rattle.std.specs.Prelude.{ℕ, ◌+◌, ◌/◌, ◌%◌, cond, ◌≡◌, List, [], ◌∷◌, ◌++◌}
use Rattle.limits.specs.Limits.{most_channels}
use Rattle.putting.specs.Characters.{text, two_bytes, hex_lines}
use Rattle.sets.specs.Set.{Set, is_none, set_bytes}
use Rattle.sets.specs.Rows.{SetRow}
use Rattle.reading.specs.declared.Refusal.{Refusal}
use Rattle.reading.specs.Plan.{plan_in}
use Rattle.solving.specs.declared.Solution.{Solution}
use Rattle.solving.specs.declared.Solved.{Solved}
use Rattle.judging.specs.declared.Answer.{Answer}
use Rattle.judging.specs.declared.Verdict.{Verdict}
use Rattle.judging.specs.declared.Verdict.TheVariants.{Unjudged, Yes, No}
use Rattle.judging.specs.Judge.{verdict_bytes, Judges}

-- ---- the lines in order

-- 2f, count in two bytes
abbrev pub count_line : ℕ → List ℕ
count_line count = 0x2f ∷ two_bytes count

-- 20, binder
abbrev pub binder_name : ℕ → List ℕ
binder_name b = 0x20 ∷ b ∷ []

-- 21, level, channel: the sets of a level stand side by side, so that 07 comes last
abbrev pub in_name : ℕ → List ℕ
in_name place = 0x21 ∷ place / most_channels ∷ place % most_channels ∷ []

-- 22, the same for out sets
abbrev pub out_name : ℕ → List ℕ
out_name place = 0x22 ∷ place / most_channels ∷ place % most_channels ∷ []

-- the name and the set's four bytes; an empty set has no line
abbrev pub set_line : List ℕ → Set → List (List ℕ)
set_line name set = cond (is_none set) [] ((name ++ set_bytes set) ∷ [])

-- each non-empty set, by its place, from the given place on
unfoldable pub set_lines : (ℕ → List ℕ) → ℕ → SetRow → List (List ℕ)
set_lines name place [] = []
set_lines name place (set ∷ rest) = set_line (name place) set ++ set_lines name (place + 1) rest

-- the binder sets, the in sets, the out sets
abbrev pub solution_lines : Solution → List (List ℕ)
solution_lines s = set_lines binder_name 0 s.binders ++ (set_lines in_name 0 s.ins ++ set_lines out_name 0 s.outs)

-- the lines in front of the verdict
abbrev pub solved_lines : Solved → List (List ℕ)
solved_lines s = count_line s.count ∷ solution_lines s.solution

-- a refusal's sheet has only 3f, number, line in two bytes
abbrev pub refusal_line : Refusal → List ℕ
refusal_line f = 0x3f ∷ f.number ∷ two_bytes f.line

-- all lines but the last; 3001 for yes, 30 00 h g c o for no
abbrev pub byte_lines : Solved → Verdict → List (List ℕ)
byte_lines s Unjudged = refusal_line s.refusal ∷ []
byte_lines s Yes = solved_lines s ++ (verdict_bytes Yes ∷ [])
byte_lines s (No b) = solved_lines s ++ (verdict_bytes (No b) ∷ [])

-- ---- the phrase

-- the last line is one of three fixed phrases
abbrev pub phrase : Verdict → List ℕ
phrase Unjudged = text "refused\n"
phrase Yes = text "flow clear\n"
phrase (No b) = text "flow breach\n"

-- ---- the sheet

-- of an answer
abbrev pub sheet_of : Answer → List ℕ
sheet_of a = hex_lines (byte_lines a.solved a.verdict) ++ phrase a.verdict

-- of a text within an allowance of rounds: that of what judging answers
pub record SheetFor (plan : List ℕ) (allowance : ℕ) (sheet : List ℕ) : Type 0 where
  pub answer : Answer
  pub judged : Judges (plan_in plan) allowance answer
  pub is : sheet ≡ sheet_of answer
