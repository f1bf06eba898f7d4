-- A reading with a number is refused by it; a good one spells the plan's tree, which the rounds settle.
-- Assumes nothing.
use Rattle.reading.specs.Plan.{plan_in}
use Rattle.reading.proofs.Promise.{kept}
use Rattle.solving.proofs.Readings.{plan_nodes, plan_exceeds, plan_answered}
use Rattle.solving.proofs.solve.Goals as goal

pub settle-requires : goal.settle-requires
settle-requires c = plan_nodes (plan_in c.args.text.now) _ c.args.allowance (kept _) c.read-reading.ensures c.if-reading-ne0.false

pub returns-in-None : goal.returns-in-None
returns-in-None c = rw c.refused-in-None.ensures (plan_exceeds _ _ _ (kept _) c.read-reading.ensures c.if-reading-ne0.false c.in-None.ensures)

pub returns-in-Some : goal.returns-in-Some
returns-in-Some c = plan_answered _ _ _ (kept _) c.read-reading.ensures c.if-reading-ne0.false _ _ c.in-Some.ensures
