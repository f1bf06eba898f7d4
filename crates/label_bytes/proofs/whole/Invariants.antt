-- `whole`: up to the end so far the characters are passed; where no further one fits they are the longest. The measure is what is left of the bytes.
-- Assumes nothing.
use Rattle.std.proofs.Common.{◌-◌, length}
use Rattle.label_bytes.proofs.Passed.{Passed}
use Rattle.label_bytes.proofs.whole.Given as goal

abbrev pub invariant-loop-size : goal.invariant-loop-size
invariant-loop-size l = Passed l.most l.bytes l.end

abbrev pub decreases-loop-size : goal.decreases-loop-size
decreases-loop-size l = length l.bytes - l.end
