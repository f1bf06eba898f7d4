-- `read_labels`: the labels so far and the lines that are left are the outcome; what is left of the text falls, by a line at least. Each return is
-- one law over what the calls gave.
-- Assumes nothing.
use Prim.Native.Nat.{◌+◌}
use native.Mathlib.Omega.{arith}
use mathlib.Core.Path.{refl, sym, ap, ◌∙◌}
use Rattle.std.specs.Prelude.{Ok}
use Rattle.reading.proofs.Labelling.{so_far_none, labels_refused, labels_done, labels_long, label_there, room_for_label, label_repeated, labels_on_lem}
use Rattle.reading.proofs.labels.read_labels.Goals as goal

pub loop-reason-init : goal.loop-reason-init
loop-reason-init c = so_far_none _ _ _ c.requires.0 c.requires.2

pub returns-in-Err : goal.returns-in-Err
returns-in-Err c = labels_refused _ _ _ _ c.loop-reason.invariant _ _ (sym c.in-Err.is ∙ c.next_label.ensures) c.refuse.ensures

pub returns-in-Ok-None : goal.returns-in-Ok-None
returns-in-Ok-None c =
    labels_done _ _ _ _ c.loop-reason.invariant (sym (c.in-Ok-None.is ∙ ap Ok c.in-Ok-None.field-0-is) ∙ c.next_label.ensures)

pub returns-then-is_repeated : goal.returns-then-is_repeated
returns-then-is_repeated c =
    let found = sym (c.in-Ok-Some.is ∙ ap Ok c.in-Ok-Some.field-0-is) ∙ c.next_label.ensures in
    label_repeated _ _ _ _ c.loop-reason.invariant _ found _ c.is_repeated.ensures c.if-is_repeated.true _ c.refuse-then-is_repeated.ensures

pub bounds-state-count : goal.bounds-state-count
bounds-state-count c =
    let found = sym (c.in-Ok-Some.is ∙ ap Ok c.in-Ok-Some.field-0-is) ∙ c.next_label.ensures in
    room_for_label _ _ _ _ c.loop-reason.invariant _ found c.requires.1

pub listed : goal.listed
listed c =
    let found = sym (c.in-Ok-Some.is ∙ ap Ok c.in-Ok-Some.field-0-is) ∙ c.next_label.ensures in
    omega (arith, room_for_label _ _ _ _ c.loop-reason.invariant _ found c.requires.1, labels_long _ _ _ _ c.loop-reason.invariant)

pub past-state-requires : goal.past-state-requires
past-state-requires c =
    let found = sym (c.in-Ok-Some.is ∙ ap Ok c.in-Ok-Some.field-0-is) ∙ c.next_label.ensures in
    (c.loop-reason.invariant.stands, (label_there _ _ _ _ c.loop-reason.invariant _ found).ended)

pub loop-reason-preserved : goal.loop-reason-preserved
loop-reason-preserved c =
    let found = sym (c.in-Ok-Some.is ∙ ap Ok c.in-Ok-Some.field-0-is) ∙ c.next_label.ensures in
    let past = c.past-state.ensures in
    labels_on_lem _ _ _ _ c.loop-reason.invariant _ found _ c.is_repeated.ensures c.if-is_repeated.false _ c.requires.1 past.1 past.0 refl refl
    (ap (λ n. n + 1) c.place_among.ensures)
