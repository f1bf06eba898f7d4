-- The reach sheet that the checker computes with. That it is the reach sheet of ReachSheet.antt is proved in proofs/Reached.antt.
-- Assumes nothing.
use Rattle.std.specs.Prelude.{ℕ, List}
use Rattle.reading.specs.Plan.{plan_in}
use Rattle.reaching.specs.inner.Compute.{received_of}
use Rattle.reach_sheet.specs.ReachSheet.{reach_sheet_of}

-- of a text within an allowance of rounds
unfoldable pub reach_sheet_for : List ℕ → ℕ → List ℕ
reach_sheet_for plan allowance = reach_sheet_of (received_of (plan_in plan) allowance)
