-- Zero is the one set with no member.
-- Assumes nothing.
use Rattle.sets.proofs.Decide.{says_equal}
use Rattle.sets.proofs.Minimum.{empty_zero}
use Rattle.sets.proofs.is_empty.Goals as goal

pub returns : goal.returns
returns c = says_equal c.args.set 0 (empty_zero c.args.set)
