-- Behind some levels the union is of what was sent at those.
-- Assumes nothing.
use Rattle.solving.proofs.Tables.{sent_more}
use Rattle.solving.proofs.table.sent.Goals as goal

pub loop-level-preserved : goal.loop-level-preserved
loop-level-preserved c =
    let here = rw c.outs_at.ensures at c.together.ensures in
    sent_more _ _ _ _ _ _ c.loop-level.invariant here c.union-all.ensures
