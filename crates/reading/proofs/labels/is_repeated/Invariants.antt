-- `is_repeated`: what is left of the labels before decides as all of them do. Assumes nothing.
use mathlib.Core.Path.{◌≡◌}
use lib.ListN.{drop}
use Rattle.lines.specs.Labels.{bytes_of_label}
use Rattle.reading.specs.Plan.{is_repeated}
use Rattle.reading.proofs.labels.is_repeated.Given as goal

abbrev pub invariant-loop-other : goal.invariant-loop-other
invariant-loop-other l =
    let kind = l.label.kind in
    let bytes = bytes_of_label l.label in
    is_repeated kind bytes (drop l.other-index l.before) ≡ is_repeated kind bytes l.before
