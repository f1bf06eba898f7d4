-- The one place that is stored to holds the union.
-- Assumes nothing.
use Rattle.sets.proofs.Joins.{joins_one}
use Rattle.sets.proofs.rows.join_at.Goals as goal

pub returns-clause-joins : goal.returns-clause-joins
returns-clause-joins c = joins_one c.args.row.now c.args.place c.args.set _ c.requires c.union.ensures
