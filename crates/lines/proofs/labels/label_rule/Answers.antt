-- `label_rule`: the test of the bytes is the definition's. Assumes nothing.
use mathlib.Core.Path.{sym, ◌∙◌}
use borrow.Author.Tests.{le-ltb}
use Rattle.label_bytes.proofs.Labels.{test_is}
use Rattle.lines.proofs.labels.label_rule.Goals as goal

pub returns-then-not-is_label : goal.returns-then-not-is_label
returns-then-not-is_label c =
    let thing = sym c.is_thing.ensures ∙ c.if-not-is_thing.false in
    let formed = sym (test_is _ _ c.is_label.ensures) ∙ c.if-not-is_label.true in
    rw (thing, ← c.place_among.ensures, le-ltb _ _ c.if-place_among-least.false, ← c.own_bytes.ensures, formed)

pub returns : goal.returns
returns c =
    let thing = sym c.is_thing.ensures ∙ c.if-not-is_thing.false in
    let formed = sym (test_is _ _ c.is_label.ensures) ∙ c.if-not-is_label.false in
    rw (thing, ← c.place_among.ensures, le-ltb _ _ c.if-place_among-least.false, ← c.own_bytes.ensures, formed)
