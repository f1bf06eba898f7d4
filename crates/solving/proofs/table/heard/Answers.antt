-- Somebody has sent where the union of all that was sent has a member.
-- Assumes nothing.
use Rattle.limits.specs.Limits.{levels}
use Rattle.sets.specs.Set.{Has}
use Rattle.sets.proofs.Decide.{says_not}
use Rattle.sets.proofs.Minimum.{members_some}
use Rattle.solving.specs.inner.Table.{Sent}
use Rattle.solving.proofs.table.heard.Goals as goal

pub returns : goal.returns
returns c =
    let a = c.args in
    let all = c.sent in
    says_not c.is_empty.ensures (λ w e. e w.0 ((all.ensures.has w.0).1 w.1))
    (members_some all.result (Sent a.table.now levels (Has a.channels)) all.ensures)
