-- The loops' invariants: nothing goes down at the levels and channels passed. Assumes nothing.
use Rattle.judging.specs.Verdict.{Lower}
use Rattle.judging.proofs.Turns.{QuietFrom, QuietTo, QuietOn}
use Rattle.judging.proofs.verdict_of.Given as goal

abbrev pub invariant-loop-channel : goal.invariant-loop-channel
invariant-loop-channel l = QuietOn (Lower l.top) l.solution l.high l.low l.channel

abbrev pub invariant-loop-low : goal.invariant-loop-low
invariant-loop-low l = QuietTo (Lower l.top) l.solution l.high l.low

abbrev pub invariant-loop-high : goal.invariant-loop-high
invariant-loop-high l = QuietFrom (Lower l.top) l.solution l.high
