-- A send stops where S(x) or S(y) is empty; otherwise S(y) is spread over the out sets of S(x)'s channels.
-- Assumes nothing.
use mathlib.Core.Path.{refl}
use borrow.Author.Rules.{rules}
use Rattle.sets.proofs.Minimum.{members_some, members_none}
use Rattle.solving.proofs.clauses.sending.Goals as goal
use Rattle.solving.proofs.clauses.sending.Goals.{then-is_empty-via-then-is_empty, then-is_empty-via-else-is_empty+then-is_empty-2}

pub returns-then-is_empty : goal.returns-then-is_empty
returns-then-is_empty c = elim c.then-is_empty.branch [
  | then-is_empty-via-then-is_empty w ↦
      (λ s. members_none _ _ c.set_of-from.ensures.members (c.is_empty.ensures.yes w.if-is_empty.true) s.0.0 s.0.1, refl)
  | then-is_empty-via-else-is_empty+then-is_empty-2 w ↦
      (λ s. members_none _ _ c.set_of-what.ensures.members (w.is_empty-else-is_empty.ensures.yes w.if-is_empty-2.true) s.1.0 s.1.1, refl)
]

pub returns : goal.returns
returns c =
    let x = c.set_of-from.ensures.members in
    let y = c.set_of-what.ensures.members in (
      (members_some _ _ x (c.is_empty.ensures.no c.if-is_empty.false), members_some _ _ y (c.is_empty-else-is_empty.ensures.no c.if-is_empty-2.false)),
      search rules,
    )
