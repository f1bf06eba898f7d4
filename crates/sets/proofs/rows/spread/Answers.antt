-- The set is the same for each channel.
-- Assumes nothing.
use Rattle.std.proofs.Common.{rules}
use Rattle.sets.proofs.rows.spread.Goals as goal

pub returns-clause-joins : goal.returns-clause-joins
returns-clause-joins c = c.join_each.ensures.joins (λ k. c.args.set) (search rules)
