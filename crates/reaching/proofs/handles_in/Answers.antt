-- `handles_in`: the levels passed have the handles of their in sets. Assumes nothing.
use Rattle.std.proofs.Common.{◌<◌, ◌≢◌, length, arith, get_or-set_other, get_or-set_same, below_more}
use Rattle.reaching.proofs.Whole.{level_members}
use Rattle.reaching.proofs.handles_in.Goals as goal

pub loop-level-preserved : goal.loop-level-preserved
loop-level-preserved c =
    let at = c.loop-level in
    let fits : at.level < length at.received-items = omega arith in
    let here = level_members c.args.ins.now at.level _ _ c.every.ensures c.together.ensures in
    below_more _ _ (λ k h. let ne : k ≢ at.level = omega arith in rw get_or-set_other (at.invariant k h)) (rw get_or-set_same here)
