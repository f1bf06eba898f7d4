-- After so many rounds the table holds what the definition's rounds give, and none of them was idle.
-- Assumes nothing.
use Prim.Native.Nat.{◌-◌}
use Rattle.reading.specs.Plan.{Plan}
use Rattle.solving.specs.inner.Walk.{Spells}
use Rattle.solving.proofs.Settling.{Reached}
use Rattle.solving.proofs.rounds.settle.Given as goal

abbrev pub invariant-loop-count : goal.invariant-loop-count
invariant-loop-count l = (p : Plan) → Spells l.nodes l.offers p → Reached p (l.count - 1) l.table
