-- What solving a text within an allowance of rounds answers.
-- Assumes nothing.
use Rattle.std.specs.Prelude.{ℕ, ◌≤◌, ◌≡◌, ◌⊎◌, Ok, Err}
use Rattle.limits.specs.Limits.{most_binders, level_sets}
use Rattle.sets.specs.Rows.{empty_row}
use Rattle.reading.specs.declared.Refusal.{Refusal}
use Rattle.reading.specs.Plan.{Outcome, Plan, no_head, no_refusal}
use Rattle.solving.specs.declared.Solution.{Solution}
use Rattle.solving.specs.declared.Solved.{Solved}
use Rattle.solving.specs.Solutions.{members_in, LiesWithin, Sized}
use Rattle.solving.specs.Rounds.{Count, Exceeds}
use Rattle.solving.specs.Least.{LeastArrays}

abbrev pub empty_solution : Solution
empty_solution = record { binders = empty_row most_binders; ins = empty_row level_sets; outs = empty_row level_sets }

-- a refusal: all sets empty, count 0
abbrev pub refused_by : Refusal → Solved
refused_by f = record { refusal = f; head = no_head; count = 0; solution = empty_solution }

-- refusal 14: the round count exceeds the allowance
abbrev pub over_allowance : Refusal
over_allowance = record { number = 14; line = 0 }

-- the count is within the allowance: the count, and the least acceptable solution
pub record Answered (plan : Plan) (allowance : ℕ) (r : Solved) : Type 0 where
  pub refusal : r.refusal ≡ no_refusal
  pub head : r.head ≡ plan.head
  pub count : Count plan r.count
  pub allowed : r.count ≤ allowance
  pub least : LeastArrays plan r.solution
  pub within : LiesWithin plan.head (members_in r.solution)
  pub sized : Sized r.solution

-- it exceeds the allowance: refusal 14
pub record RoundsSpent (plan : Plan) (allowance : ℕ) (r : Solved) : Type 0 where
  pub exceeds : Exceeds plan allowance
  pub is : r ≡ refused_by over_allowance

-- what is answered, by what the text reads as
abbrev pub Solves : Outcome Plan → ℕ → Solved → Type 0
Solves (Err f) allowance r = r ≡ refused_by f
Solves (Ok plan) allowance r = Answered plan allowance r ⊎ RoundsSpent plan allowance r
