-- Document 01, demand 2: the least acceptable solution.
-- Assumes nothing.
use Rattle.reading.specs.Plan.{Plan}
use Rattle.solving.specs.declared.Solution.{Solution}
use Rattle.solving.specs.Solutions.{Sets, Contained, LiesWithin, members_in}
use Rattle.solving.specs.Clauses.{Acceptable}

-- acceptable, and contained in every acceptable solution, of whatever sets
pub record Least (p : Plan) (s : Sets) : Type 1 where
  pub acceptable : Acceptable p s
  pub least : (t : Sets) → Acceptable p t → Contained s t

-- the same of arrays: acceptable, and contained in every acceptable solution that arrays can hold
pub record LeastArrays (p : Plan) (s : Solution) : Type 0 where
  pub acceptable : Acceptable p (members_in s)
  pub least : (t : Solution) → Acceptable p (members_in t) → Contained (members_in s) (members_in t)

-- an acceptable solution of a plan, within C, B and k
pub record AcceptableIn (plan : Plan) (t : Sets) : Type 0 where
  pub within : LiesWithin plan.head t
  pub acceptable : Acceptable plan t
