-- `after_head`: each return is one law over what the sections gave. Assumes nothing.
use mathlib.Core.Path.{refl}
use Rattle.std.proofs.lemmas.Result.{err_from_is_err_and}
use Rattle.reading.proofs.Whole.{after_names, after_offers, after_labels, after_tree, after_more, after_all}
use Rattle.reading.proofs.after_head.Goals as goal

pub returns-in_err-read_names : goal.returns-in_err-read_names
returns-in_err-read_names c =
    let p = err_from_is_err_and c.from_residual.result c.from_residual.ensures.1 in
    rw (p.1, p.2)
    (after_names c.args.text.now c.args.head c.args.cursor c.requires.0 _ c.fresh_names-named.ensures _ c.in_err-read_names.ensures)

pub returns-in_err-offered : goal.returns-in_err-offered
returns-in_err-offered c =
    let p = err_from_is_err_and c.from_residual-in_err-offered.result c.from_residual-in_err-offered.ensures.1 in
    rw (p.1, p.2)
    (after_offers c.args.text.now c.args.head c.args.cursor c.requires.0 _ c.fresh_names-named.ensures _ c.in_ok-read_names.ensures _ c.fresh_offers.ensures
    _ c.in_err-offered.ensures)

pub returns-in_err-labelled : goal.returns-in_err-labelled
returns-in_err-labelled c =
    let p = err_from_is_err_and c.from_residual-in_err-labelled.result c.from_residual-in_err-labelled.ensures.1 in
    rw (p.1, p.2)
    (after_labels c.args.text.now c.args.head c.args.cursor c.requires.0 _ c.fresh_names-named.ensures _ c.in_ok-read_names.ensures _ c.fresh_offers.ensures
    _ c.in_ok-offered.ensures _ c.fresh_labels.ensures _ c.in_err-labelled.ensures)

pub returns-in_err-read_node : goal.returns-in_err-read_node
returns-in_err-read_node c =
    let p = err_from_is_err_and c.from_residual-in_err-read_node.result c.from_residual-in_err-read_node.ensures.1 in
    rw (p.1, p.2)
    (after_tree c.args.text.now c.args.head c.args.cursor c.requires.0 _ c.fresh_names-named.ensures _ c.in_ok-read_names.ensures _ c.fresh_offers.ensures
    _ c.in_ok-offered.ensures _ c.fresh_labels.ensures _ c.in_ok-labelled.ensures _ c.fresh_state-tree.ensures _ c.in_err-read_node.ensures)

pub returns-then-tree-text : goal.returns-then-tree-text
returns-then-tree-text c =
    after_more c.args.text.now c.args.head c.args.cursor c.requires.0 _ c.fresh_names-named.ensures _ c.in_ok-read_names.ensures _ c.fresh_offers.ensures
    _ c.in_ok-offered.ensures _ c.fresh_labels.ensures _ c.in_ok-labelled.ensures _ c.fresh_state-tree.ensures _ c.in_ok-read_node.ensures
    _ c.if-tree-text.true c.refuse.ensures

pub returns : goal.returns
returns c =
    after_all c.args.text.now c.args.head c.args.cursor c.requires.0 _ c.fresh_names-named.ensures _ c.in_ok-read_names.ensures _ c.fresh_offers.ensures
    _ c.in_ok-offered.ensures _ c.fresh_labels.ensures _ c.in_ok-labelled.ensures _ c.fresh_state-tree.ensures _ c.in_ok-read_node.ensures
    _ c.if-tree-text.false refl
