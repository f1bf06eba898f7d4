-- The zeros below the lowest 1 are as many as its place.
-- Assumes nothing.
use mir.Syntax.{w32}
use Rattle.sets.proofs.Minimum.{filled, trailing_least}
use Rattle.sets.proofs.least.Goals as goal

pub returns-clause-least_member : goal.returns-clause-least_member
returns-clause-least_member c = trailing_least w32 c.args.set (filled c.args.set c.requires) c.ranges.set.fits
