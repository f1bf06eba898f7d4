-- A turn joins what stands at the channel that it takes.
-- Assumes nothing.
use Rattle.sets.proofs.Walking.{turned, together_more}
use Rattle.sets.proofs.rows.together.Goals as goal

pub loop-c-preserved : goal.loop-c-preserved
loop-c-preserved c o =
    let took = c.in-Some.ensures.steps in
    turned (c.union-all.ensures.has o) (together_more took.1 took.2 c.args.from.now c.args.start o) (c.loop-c.invariant o)
