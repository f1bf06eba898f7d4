-- `is_same`: another kind, or the same kind and what its bytes say. Assumes nothing.
use mathlib.Core.Path.{◌∙◌}
use borrow.Author.Tests.{eq-eqb, ne_eqb}
use Rattle.reading.specs.Plan.{is_same}
use Rattle.reading.proofs.Repeating.{bytes_same}
use Rattle.reading.proofs.labels.is_same.Goals as goal

pub returns-then-other-label : goal.returns-then-other-label
unfolding is_same
returns-then-other-label c =
    rw (eq-eqb _ _ c.if-other-label.true, ← c.own_bytes.ensures, ← c.own_bytes-then-other-label.ensures) (c.eq.ensures ∙ bytes_same _ _)

pub returns-else-other-label : goal.returns-else-other-label
unfolding is_same
returns-else-other-label c = rw (ne_eqb _ _ c.if-other-label.false)
