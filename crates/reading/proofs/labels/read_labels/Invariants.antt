-- `read_labels`: the labels so far and the lines that are left are the outcome; what is left of the text falls, by a line at least. Each return is
-- one law over what the calls gave.
-- Assumes nothing.
use Prim.Native.Nat.{◌-◌}
use mathlib.Core.List.{[]}
use lib.ListN.{length}
use Rattle.text.specs.Positions.{rest_at}
use Rattle.reading.specs.Plan.{read_labels}
use Rattle.reading.proofs.Labelling.{SoFar}
use Rattle.reading.proofs.labels.read_labels.Given as goal

abbrev pub invariant-loop-reason : goal.invariant-loop-reason
invariant-loop-reason l =
    SoFar l.text l.head (read_labels l.head 0 [] l.initial.state.cursor.line (rest_at l.text l.initial.state.cursor.at)) l.state

abbrev pub decreases-loop-reason : goal.decreases-loop-reason
decreases-loop-reason l = length l.text - l.state.cursor.at
