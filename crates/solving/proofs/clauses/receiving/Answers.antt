-- A receive stops where nobody has sent on a channel of S(x); otherwise what was sent is gathered into the in sets, and the
-- in sets as they were into the binder's set.
-- Assumes nothing.
use borrow.Author.Rules.{rules}
use Rattle.solving.proofs.Steps.{sounding_heard, receive_adds}
use Rattle.solving.proofs.clauses.receiving.Goals as goal

pub returns : goal.returns
returns c =
    let union = c.together-what in
    let x = c.set_of-from in
    let a = c.args in (
      (sounding_heard a.old.now a.x x.result x.ensures.narrow x.ensures.members).0 (c.heard.ensures.yes (search rules)),
      receive_adds a.old.now a.new.now c.gather.new.new c.join_at.new.row a.x a.binder a.level x.result union.result c.ins_at.result
          c.requires.2 c.requires.1 x.ensures.narrow x.ensures.members c.gather.ensures c.ins_at.ensures union.ensures c.join_at.ensures.joins,
    )
