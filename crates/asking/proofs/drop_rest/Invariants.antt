-- `drop_rest`: each turn drops a byte at least, so that an input with fewer bytes than there are turns ends before them. Assumes nothing.
use Rattle.std.proofs.Common.{◌<◌, ◌≤◌, ◌+◌, ◌^◌, List, length, ℕ}
use Rattle.std.specs.Io.KnownBytes.{Consumes}
use Rattle.asking.proofs.drop_rest.Given as goal

abbrev pub invariant-loop-turns : goal.invariant-loop-turns
invariant-loop-turns g l =
    (l.turns < 2 ^ 64)
    × (dropped : List ℕ)
    × Consumes (g.R.Read.remaining l.initial.from) (g.R.Read.remaining l.from) dropped
    × (2 ^ 64 ≤ length dropped + l.turns + 1)

abbrev pub decreases-loop-turns : goal.decreases-loop-turns
decreases-loop-turns g l = l.turns
