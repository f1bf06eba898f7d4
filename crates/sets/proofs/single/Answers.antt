-- The shifted 1 is a power of two, whose one member is the exponent.
-- Assumes nothing.
use Rattle.limits.specs.Limits.{most_channels}
use Rattle.sets.proofs.Members.{has_single}
use Rattle.sets.proofs.Width.{shift_one}
use Rattle.sets.proofs.single.Goals as goal

pub returns : goal.returns
returns c = rw (shift_one most_channels c.args.channel c.requires) (record { has = has_single c.args.channel })
