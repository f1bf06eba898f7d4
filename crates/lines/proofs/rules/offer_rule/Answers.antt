-- `offer_rule`: each return is the rule's answer under the tests that led to it. Assumes nothing.
use mathlib.Core.Path.{◌∙◌}
use borrow.Author.Tests.{le-leb, lt-leb, lt-ltb, le-ltb}
use Rattle.sets.proofs.Minimum.{none_told}
use Rattle.sets.proofs.Width.{narrow_told}
use Rattle.lines.proofs.rules.offer_rule.Goals as goal
use Rattle.lines.proofs.rules.offer_rule.Goals.{then-head-channel-via-then-head-channel, then-head-channel-via-else-head-channel+then-not-is_narrow}

pub returns-then-head-channel : goal.returns-then-head-channel
returns-then-head-channel c =
    elim c.then-head-channel.branch [
      | then-head-channel-via-then-head-channel w ↦ rw (le-leb _ _ w.if-head-channel.true)
      | then-head-channel-via-else-head-channel+then-not-is_narrow w ↦
          let wide = narrow_told _ _ _ w.is_narrow.ensures ∙ w.if-not-is_narrow.true in
          simp (lt-leb _ _ w.if-head-channel.false, wide)
    ]

pub returns-then-channel-least : goal.returns-then-channel-least
returns-then-channel-least c =
    let narrow = narrow_told _ _ _ c.is_narrow.ensures ∙ c.if-not-is_narrow.false in
    simp (lt-leb _ _ c.if-head-channel.false, narrow, lt-ltb _ _ c.if-channel-least.true)

pub returns-then-is_empty : goal.returns-then-is_empty
returns-then-is_empty c =
    let narrow = narrow_told _ _ _ c.is_narrow.ensures ∙ c.if-not-is_narrow.false in
    let none = none_told _ _ c.is_empty.ensures ∙ c.if-is_empty.true in
    simp (lt-leb _ _ c.if-head-channel.false, narrow, le-ltb _ _ c.if-channel-least.false, none)

pub returns : goal.returns
returns c =
    let narrow = narrow_told _ _ _ c.is_narrow.ensures ∙ c.if-not-is_narrow.false in
    let none = none_told _ _ c.is_empty.ensures ∙ c.if-is_empty.false in
    simp (lt-leb _ _ c.if-head-channel.false, narrow, le-ltb _ _ c.if-channel-least.false, none)
