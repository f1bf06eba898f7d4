-- No channel is left at the end, so that nothing is to be joined any more.
-- Assumes nothing.
use Rattle.std.proofs.Common.{arith}
use Rattle.std.proofs.lemmas.Grind.{common_steps}
use Rattle.sets.proofs.rows.join_each.Goals as goal

pub returns-clause-joins : goal.returns-clause-joins
returns-clause-joins g c sets given = record { joins = λ i o. grind (arith, common_steps, c.loop-c.invariant.whole sets given i o) }
