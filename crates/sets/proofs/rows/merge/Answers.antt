-- The set for a channel is the one that stands there in the other row.
-- Assumes nothing.
use Rattle.std.proofs.Common.{◌+◌, rules}
use Rattle.sets.specs.Rows.{set_at}
use Rattle.sets.proofs.rows.merge.Goals as goal

pub returns-clause-joins : goal.returns-clause-joins
returns-clause-joins c = c.join_each.ensures.joins (λ k. set_at c.args.from.now (c.args.start + k)) (search rules)
