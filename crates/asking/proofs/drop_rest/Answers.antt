-- `drop_rest`: what a turn drops stands behind what was dropped before. Assumes nothing.
use Rattle.std.proofs.Common.{◌++◌, arith, length-append}
use Rattle.std.proofs.KnownBytes.{Consumes-trans}
use Rattle.asking.proofs.drop_rest.Goals as goal

pub loop-turns-preserved : goal.loop-turns-preserved
loop-turns-preserved g c =
    let before = c.loop-turns.invariant in
    let more = c.in_ok-drop_some.ensures in
    let some = more.some c.if-branch.true in
    let long = length-append before.1 more.dropped in
    (omega arith, before.1 ++ more.dropped, Consumes-trans _ _ _ _ _ before.2 more.gone, omega (arith, before.3, some, long))
