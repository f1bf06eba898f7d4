-- The bitwise and has the members that both share, and it is not zero just where it has one.
-- Assumes nothing.
use lib.Bits.{bit_and}
use Rattle.sets.proofs.Decide.{says_unequal}
use Rattle.sets.proofs.Minimum.{meet_and}
use Rattle.sets.proofs.meets.Goals as goal

pub returns : goal.returns
returns c = says_unequal (bit_and c.args.a c.args.b) 0 (meet_and c.args.a c.args.b)
