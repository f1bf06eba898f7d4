-- The digit of the member is cleared.
-- Assumes nothing.
use mir.Syntax.{w32}
use Rattle.sets.proofs.Removal.{without_cleared}
use Rattle.sets.proofs.without.Goals as goal

pub returns : goal.returns
returns c = without_cleared w32 c.args.set c.args.channel c.ranges.set.fits c.requires.0 c.requires.1
