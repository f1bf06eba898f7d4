-- After so many rounds the table holds what the definition's rounds give, and none of them was idle.
-- Assumes nothing.
use mathlib.Core.Path.{◌≡◌, subst⁻¹}
use mathlib.Core.Logic.{◌≢◌}
use native.Mathlib.Omega.{arith}
use borrow.Author.Rules.{rules}
use Rattle.solving.proofs.Leastness.{busy_exceeds}
use Rattle.solving.proofs.Settling.{Reached, reached_none, reached_more, settled_if, answered_by}
use Rattle.solving.proofs.rounds.settle.Goals as goal

pub loop-count-init : goal.loop-count-init
loop-count-init c = λ p h. subst⁻¹ (Reached p 0) c.empty-table.ensures (reached_none p)

pub returns-then-same : goal.returns-then-same
returns-then-same c = λ p s.
    let at = c.loop-count in
    let r = at.invariant p s in
    let same = c.same.ensures.yes c.if-same.true in
    let settled = settled_if p _ at.table _ r (c.round-next.ensures p s) same in
    answered_by p _ _ _ at.table _ s.within r settled (omega arith) (omega arith) c.solution_of.ensures

pub loop-count-preserved : goal.loop-count-preserved
loop-count-preserved c = λ p s.
    let at = c.loop-count in
    let other = c.same.ensures.no c.if-same.false in
    reached_more p _ at.table _ (at.invariant p s) (c.round-next.ensures p s) _ (omega arith) (search rules) other

pub returns-else-same : goal.returns-else-same
returns-else-same c = λ p s.
    let at = c.loop-count in
    let other = c.same.ensures.no c.if-same.false in
    let all = reached_more p _ at.table _ (at.invariant p s) (c.round-next.ensures p s) c.args.allowance (omega arith) (search rules) other in
    busy_exceeds p _ all.busy
