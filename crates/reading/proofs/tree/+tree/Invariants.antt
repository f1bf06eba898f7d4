-- The depth falls from a node to its branches, twice that with one more for the branches. Assumes nothing.
use Rattle.std.proofs.Common.{◌+◌, ◌*◌}
use Rattle.reading.proofs.tree.+tree.Given as goal

abbrev pub decreases-read_node : goal.decreases-read_node
decreases-read_node l = l.depth * 2

abbrev pub decreases-read_branches : goal.decreases-read_branches
decreases-read_branches l = l.depth * 2 + 1
