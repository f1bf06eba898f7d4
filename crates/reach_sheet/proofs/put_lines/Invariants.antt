-- `put_lines`: what is left to be put are the lines of the places from the place on. Assumes nothing.
use Prim.Native.Nat.{◌-◌}
use Rattle.limits.specs.Limits.{level_sets}
use Rattle.putting.specs.Characters.{hex_lines}
use Rattle.putting.proofs.Putting.{Left}
use Rattle.reach_sheet.specs.ReachSheet.{reach_lines}
use Rattle.reach_sheet.proofs.put_lines.Given as goal

abbrev pub invariant-loop-place : goal.invariant-loop-place
invariant-loop-place l =
    let lines = reach_lines l.fn.received.handles l.fn.received.channels in
    Left l.initial.buffer 0 (hex_lines (lines level_sets 0)) l.buffer l.next (hex_lines (lines (level_sets - l.place) l.place))
