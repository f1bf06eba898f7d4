-- At the first place where something goes down, its least handle makes the first breach. Assumes nothing.
use native.Mathlib.Omega.{arith}
use Rattle.judging.specs.Verdict.{Lower}
use Rattle.judging.proofs.Turns.{first_breach}
use Rattle.judging.proofs.Verdicts.{breach_no}
use Rattle.judging.proofs.verdict_of.Goals as goal

pub returns-then-not-is_empty : goal.returns-then-not-is_empty
returns-then-not-is_empty c =
    let lower = c.is_lower.ensures.yes c.if-is_lower.true in
    let least = c.least.ensures.least_member in
    breach_no _ (first_breach (Lower c.args.top) c.args.solution.now _ _ _ _ (omega arith) (omega arith) (omega arith)
    c.both-handles.ensures lower least c.loop-high.invariant c.loop-low.invariant c.loop-channel.invariant)
