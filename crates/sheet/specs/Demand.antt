-- Demand 1 as one statement, of what writing the sheet of a text does.
-- Assumes nothing.
use Rattle.std.specs.Prelude.{ℕ, ◌<◌, ◌≤◌, ◌≡◌, List, [], ◌∷◌, ◌++◌, length, drop, Err, Ok}
use Rattle.lines.specs.Promise.{OfReading}
use Rattle.reading.specs.declared.Refusal.{Refusal}
use Rattle.reading.specs.Plan.{Plan, plan_in}
use Rattle.solving.specs.Rounds.{Exceeds}
use Rattle.solving.specs.Solve.{refused_by, over_allowance}
use Rattle.judging.specs.declared.Answer.{Answer}
use Rattle.judging.specs.declared.Verdict.TheVariants.{Unjudged}
use Rattle.judging.specs.Judge.{Judges}
use Rattle.sheet.specs.Sheet.{sheet_of}
use Rattle.sheet.specs.Write.{Written, values_of}

-- the answer of a refusal: all sets are empty, the count is 0, and there is no verdict
abbrev pub refusal_of : Refusal → Answer
refusal_of f = record { solved = refused_by f; verdict = Unjudged }

-- a refusal of reading, by its number
pub record IsRefusal (f : Refusal) (a : Answer) : Type 0 where
  pub number : OfReading f.number
  pub is : a ≡ refusal_of f

-- every text has an answer, and one only; where reading refuses it, by the documents' order, that is the refusal, and where the count of a plan
-- exceeds the allowance it is 14. For a buffer that is shorter than the sheet 15 and the length needed are returned and the buffer is
-- untouched; for any other the sheet's length is returned, and just the sheet's bytes are written
pub record Demand1 (text : List ℕ) (allowance : ℕ) (before : List ℕ) (returned : Written) (after : List ℕ) : Type 0 where
  pub answer : Answer
  pub judged : Judges (plan_in text) allowance answer
  pub only : (a : Answer) → Judges (plan_in text) allowance a → a ≡ answer
  pub refusals : (f : Refusal) → plan_in text ≡ Err f → IsRefusal f answer
  pub over : (plan : Plan) → plan_in text ≡ Ok plan → Exceeds plan allowance → answer ≡ refusal_of over_allowance
  pub untouched : length before < length (sheet_of answer) → (values_of returned ≡ 15 ∷ length (sheet_of answer) ∷ []) × (after ≡ before)
  pub written : length (sheet_of answer) ≤ length before
      → (values_of returned ≡ 0 ∷ length (sheet_of answer) ∷ []) × (after ≡ sheet_of answer ++ drop (length (sheet_of answer)) before)
