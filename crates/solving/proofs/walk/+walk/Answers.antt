-- A node's walk is its clause and its branches' walk; branches' walk is the first one's, and then the others'.
-- Assumes nothing.
use Prim.Native.Nat.{ℕ, suc, ◌+◌, ◌-◌, ◌<◌}
use mathlib.Core.Path.{◌≡◌}
use native.Mathlib.Omega.{arith}
use Rattle.solving.proofs.Walks.{ready_root, clause_able, branches_ready, first_ready, others_ready, walked_more, walked_node}
use Rattle.solving.proofs.walk.+walk.Goals as goal

-- a branch, and those behind it
one_more : {b i : ℕ} → i < b → b - i ≡ suc (b - (i + 1))
one_more l = omega arith

pub walk_branches-walk_node-next-requires : goal.walk_branches-walk_node-next-requires
walk_branches-walk_node-next-requires t c = (omega arith, first_ready _ _ _ _ _ _ (one_more c.loop-test.true) c.loop.invariant.ready)

pub walk_branches-loop-preserved : goal.walk_branches-loop-preserved
walk_branches-loop-preserved t c =
    let more = one_more c.loop-test.true in
    let first = c.walk_node-next.ensures in record {
      ready = others_ready _ _ _ _ _ _ _ _ _ _ more c.loop.invariant.ready first;
      whole = λ r then others. c.loop.invariant.whole r then (walked_more _ _ _ _ _ _ _ _ _ _ _ more first others);
    }

pub walk_node-offset_bounds-nodes-at : goal.walk_node-offset_bounds-nodes-at
walk_node-offset_bounds-nodes-at t c = omega (arith, (ready_root _ _ _ _ c.requires).1.here)

pub walk_node-bounds-nodes-at : goal.walk_node-bounds-nodes-at
walk_node-bounds-nodes-at t c = omega (arith, (ready_root _ _ _ _ c.requires).1.here)

pub walk_node-clause-inner-requires : goal.walk_node-clause-inner-requires
walk_node-clause-inner-requires t c = clause_able _ _ _ _ c.requires

pub walk_node-overflow_sub-depth : goal.walk_node-overflow_sub-depth
walk_node-overflow_sub-depth t c = omega (arith, (ready_root _ _ _ _ c.requires).1.deeper)

pub walk_node-overflow_add-at : goal.walk_node-overflow_add-at
walk_node-overflow_add-at t c = omega (arith, (ready_root _ _ _ _ c.requires).1.here)

pub walk_node-walk_branches-requires : goal.walk_node-walk_branches-requires
walk_node-walk_branches-requires t c =
    let w = ready_root _ _ _ _ c.requires in
    let z = w.1.deeper in
    (omega arith, branches_ready _ _ _ _ _ _ _ _ _ c.requires c.clause-inner.ensures c.branches_of.ensures)

pub walk_node-returns : goal.walk_node-returns
walk_node-returns t c = walked_node _ _ _ _ _ _ _ _ _ _ c.clause-inner.ensures c.branches_of.ensures c.walk_branches.ensures
