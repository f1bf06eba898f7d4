-- `read_node` and `read_branches`: the depth falls from a node to its branches, twice that with one more for the branches.
-- Each return is one law over what the calls gave. Assumes nothing.
use mathlib.Core.Path.{refl, sym, ◌∙◌}
use Rattle.reading.proofs.Growing.{node_refused, node_found, node_grown}
use Rattle.reading.proofs.tree.+tree.Goals as goal

pub read_node-past-state-requires : goal.read_node-past-state-requires
read_node-past-state-requires t c =
    let st = c.args.state.now in
    (c.requires, (node_found c.args.text.now c.args.head _ c.args.depth st _ (sym c.in-Ok.is ∙ c.next_node.ensures)).whole.ended)

pub read_node-returns-in-Err : goal.read_node-returns-in-Err
read_node-returns-in-Err t c =
    let st = c.args.state.now in
    node_refused c.args.text.now c.args.head _ c.args.depth st _ _ (sym c.in-Err.is ∙ c.next_node.ensures) c.refuse.ensures

pub read_node-returns-in-Ok : goal.read_node-returns-in-Ok
read_node-returns-in-Ok t c =
    let st = c.args.state.now in
    let past = c.past-state.ensures in
    node_grown c.args.text.now c.args.head _ c.args.depth st _ (sym c.in-Ok.is ∙ c.next_node.ensures)
    _ _ _ _ past.0 past.1 refl refl c.enter-inner.ensures c.branches_of.ensures c.read_branches.ensures
