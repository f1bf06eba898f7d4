-- A digit of a bitwise and is 1 where both digits are.
-- Assumes nothing.
use Rattle.sets.proofs.Members.{has_and}
use Rattle.sets.proofs.both.Goals as goal

pub returns : goal.returns
returns c = record { has = has_and c.args.a c.args.b }
