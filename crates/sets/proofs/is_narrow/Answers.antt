-- A set of no more channels than there are is narrow at any greater width; at a smaller one it is where nothing is left of it behind.
-- Assumes nothing.
use Rattle.std.proofs.lemmas.Bool.{le-leb}
use Rattle.limits.specs.Limits.{most_channels}
use Rattle.sets.proofs.Decide.{says_yes}
use Rattle.sets.proofs.Width.{narrow_past, narrow_shifted}
use Rattle.sets.proofs.is_narrow.Goals as goal

pub returns-then-width-ge-MOST_CHANNELS : goal.returns-then-width-ge-MOST_CHANNELS
returns-then-width-ge-MOST_CHANNELS c =
    let wide = c.if-width-ge-MOST_CHANNELS.true in
    rw (le-leb most_channels c.args.width wide) (says_yes (narrow_past most_channels c.args.width c.args.set c.ranges.set.fits wide))

pub returns-else-width-ge-MOST_CHANNELS : goal.returns-else-width-ge-MOST_CHANNELS
returns-else-width-ge-MOST_CHANNELS c = narrow_shifted c.args.width c.args.set
