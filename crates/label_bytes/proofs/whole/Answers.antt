-- `whole`: up to the end so far the characters are passed; where no further one fits they are the longest. Assumes nothing.
use Rattle.std.proofs.Common.{arith, length-drop}
use Rattle.std.proofs.lemmas.List.{take_rest}
use Rattle.label_bytes.proofs.Passed.{passed_no, passed_over, passed_more}
use Rattle.label_bytes.proofs.whole.Goals as goal

pub returns-then-most-end : goal.returns-then-most-end
returns-then-most-end c = passed_over _ _ c.loop-size.end c.loop-size.invariant c.in-Some.size (rw take_rest at c.in-Some.ensures) c.if-most-end.true

pub loop-size-smaller : goal.loop-size-smaller
loop-size-smaller c =
    let front = rw take_rest at c.in-Some.ensures in
    omega (arith, length-drop c.loop-size.end c.args.bytes.now)

pub loop-size-preserved : goal.loop-size-preserved
loop-size-preserved c = passed_more _ _ c.loop-size.end c.loop-size.invariant c.in-Some.size (rw take_rest at c.in-Some.ensures) c.if-most-end.false

pub returns : goal.returns
returns c = passed_no _ _ c.loop-size.end c.loop-size.invariant (rw take_rest at c.in_default.ensures)
