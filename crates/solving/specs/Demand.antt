-- Demand 2 as one statement: every text is refused as reading refuses it, or is a plan that has a count, and the least acceptable
-- solution and the count are answered exactly where the allowance is large enough.
-- Assumes nothing.
use Rattle.std.specs.Prelude.{ℕ, ◌<◌, ◌≤◌, ◌≡◌, Ok, Err}
use Rattle.reading.specs.declared.Refusal.{Refusal}
use Rattle.reading.specs.Plan.{Outcome, Plan, no_refusal}
use Rattle.solving.specs.declared.Solved.{Solved}
use Rattle.solving.specs.Solutions.{members_in, LiesWithin}
use Rattle.solving.specs.Rounds.{Count, most_rounds, round_ceiling}
use Rattle.solving.specs.Least.{Least}
use Rattle.solving.specs.Solve.{refused_by, over_allowance}

-- the count, and sets that are contained in every acceptable solution, of whatever sets
pub record LeastAnswer (plan : Plan) (n : ℕ) (r : Solved) : Type 1 where
  pub refusal : r.refusal ≡ no_refusal
  pub head : r.head ≡ plan.head
  pub count : r.count ≡ n
  pub least : Least plan (members_in r.solution)
  pub within : LiesWithin plan.head (members_in r.solution)

-- a plan
pub record PlanDemand (plan : Plan) (allowance : ℕ) (r : Solved) : Type 1 where
  pub count : ℕ
  pub counts : Count plan count
  pub bound : count ≤ most_rounds plan.head
  pub ceiling : count ≤ round_ceiling
  pub answered : count ≤ allowance → LeastAnswer plan count r
  pub over : allowance < count → r ≡ refused_by over_allowance

-- what a text reads as
pub record Demand2 (outcome : Outcome Plan) (allowance : ℕ) (r : Solved) : Type 1 where
  pub refusals : (f : Refusal) → outcome ≡ Err f → r ≡ refused_by f
  pub plans : (plan : Plan) → outcome ≡ Ok plan → PlanDemand plan allowance r
