-- `is_repeated`: what is left of the labels before decides as all of them do. Assumes nothing.
use mathlib.Core.Path.{sym, ◌∙◌}
use Rattle.reading.proofs.Repeating.{repeats_here, repeats_on, repeats_end}
use Rattle.reading.proofs.labels.is_repeated.Goals as goal

pub returns-then-is_same : goal.returns-then-is_same
returns-then-is_same c =
    repeats_here _ _ _ _ _ c.loop-other-test.true c.other-item.is (sym c.if-is_same.true ∙ c.is_same.ensures) ∙ c.loop-other.invariant

pub loop-other-preserved : goal.loop-other-preserved
loop-other-preserved c =
    repeats_on _ _ _ _ _ c.loop-other-test.true c.other-item.is (sym c.if-is_same.false ∙ c.is_same.ensures) ∙ c.loop-other.invariant

pub returns : goal.returns
returns c = repeats_end _ _ _ _ c.loop-other-test.false ∙ c.loop-other.invariant
