-- The set that stands there is a u32, so that its members are channels.
-- Assumes nothing.
use native.Mathlib.Omega.{arith}
use Rattle.limits.specs.Limits.{most_channels}
use Rattle.sets.specs.Rows.{set_at}
use Rattle.sets.proofs.Width.{below}
use Rattle.sets.proofs.rows.at.Goals as goal

pub returns-clause-narrow : goal.returns-clause-narrow
returns-clause-narrow c k = below most_channels (set_at c.args.row.now c.args.place) k (omega (arith, c.type_inv.row c.args.place))
