-- A digit of a bitwise or is 1 where one of the two digits is.
-- Assumes nothing.
use Rattle.sets.proofs.Members.{has_or}
use Rattle.sets.proofs.union.Goals as goal

pub returns : goal.returns
returns c = record { has = has_or c.args.a c.args.b }
