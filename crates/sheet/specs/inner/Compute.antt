-- The sheet that the checker computes with. That it is the sheet of Sheet.antt is proved in proofs/Sheets.antt.
-- Assumes nothing.
use Rattle.std.specs.Prelude.{ℕ, List}
use Rattle.reading.specs.Plan.{plan_in}
use Rattle.judging.specs.inner.Compute.{answer_of}
use Rattle.sheet.specs.Sheet.{sheet_of}

-- of a text within an allowance of rounds
unfoldable pub sheet_for : List ℕ → ℕ → List ℕ
sheet_for plan allowance = sheet_of (answer_of (plan_in plan) allowance)
