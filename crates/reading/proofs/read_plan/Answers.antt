-- `read_plan`: each return is one law over what the first line said. Assumes nothing.
use mathlib.Core.Path.{sym, ◌∙◌}
use native.Mathlib.Omega.{arith}
use Rattle.reading.proofs.Whole.{text_wrong, text_short, text_refused, text_head, text_read}
use Rattle.reading.proofs.read_plan.Goals as goal

pub returns-then-wrong_length : goal.returns-then-wrong_length
returns-then-wrong_length c = text_wrong _ _ (sym c.wrong_length.ensures ∙ c.if-wrong_length.true) c.refuse.ensures

pub past-requires : goal.past-requires
past-requires c =
    let right = sym c.wrong_length.ensures ∙ c.if-wrong_length.false in
    let head = text_head c.args.text.now right _ (sym c.in-Ok.is ∙ c.first_head.ensures) in
    (record { short = text_short c.args.text.now right; within = omega arith; few = omega arith }, head.1.ended)

pub after_head-requires : goal.after_head-requires
after_head-requires c =
    let right = sym c.wrong_length.ensures ∙ c.if-wrong_length.false in
    ((text_head c.args.text.now right _ (sym c.in-Ok.is ∙ c.first_head.ensures)).0, c.past.ensures.1)

pub returns-in-Err : goal.returns-in-Err
returns-in-Err c =
    let right = sym c.wrong_length.ensures ∙ c.if-wrong_length.false in
    text_refused c.args.text.now right _ _ (sym c.in-Err.is ∙ c.first_head.ensures) c.refuse-in-Err.ensures

pub returns-in-Ok : goal.returns-in-Ok
returns-in-Ok c =
    let right = sym c.wrong_length.ensures ∙ c.if-wrong_length.false in
    c.after_head.ensures ∙ text_read c.args.text.now right _ (sym c.in-Ok.is ∙ c.first_head.ensures) _ c.past.ensures.0
