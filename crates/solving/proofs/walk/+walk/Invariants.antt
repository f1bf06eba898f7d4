-- The measure is twice the depth that is left, and one more for branches. Behind some branches the others may be walked, and whatever walks
-- those has walked them all.
-- Assumes nothing.
use Prim.Native.Nat.{ℕ, ◌+◌, ◌-◌, ◌*◌}
use Rattle.sets.specs.Rows.{SetRow}
use Rattle.solving.specs.inner.Walk.{Ready, Walked}
use Rattle.solving.proofs.walk.+walk.Given as goal

abbrev pub decreases-walk_branches : goal.decreases-walk_branches
decreases-walk_branches l = 2 * l.depth + 1

abbrev pub decreases-walk_node : goal.decreases-walk_node
decreases-walk_node l = 2 * l.depth

abbrev pub invariant-walk_branches-loop : goal.invariant-walk_branches-loop
invariant-walk_branches-loop l = record {
  ready : Ready l.depth l.nodes l.next l.level (l.branches - l.counter);
  whole : (r : ℕ) (then : SetRow) → Walked l.nodes l.next l.level (l.branches - l.counter) l.old l.new r then
      → Walked l.nodes l.at l.level l.branches l.old l.initial.new r then;
}
