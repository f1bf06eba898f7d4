-- Each array is a part of the table.
-- Assumes nothing.
use lib.ListN.{length}
use mathlib.Core.Path.{◌≡◌}
use native.Mathlib.Omega.{arith}
use borrow.Author.Rules.{rules}
use Rattle.limits.specs.Limits.{most_binders, level_sets}
use Rattle.solving.specs.inner.Table.{table_size}
use Rattle.solving.proofs.Settling.{copied_part, unpacked}
use Rattle.solving.proofs.table.solution_of.Goals as goal

pub returns : goal.returns
returns c =
    let z : length c.args.table.now ≡ table_size = search rules in
    let binders = copied_part _ _ _ most_binders _ (search rules) (omega arith) c.copy.ensures in
    let ins = copied_part _ _ _ level_sets _ (search rules) (omega arith) c.copy-2.ensures in
    let outs = copied_part _ _ _ level_sets _ (search rules) (omega arith) c.copy-3.ensures in
    unpacked _ _ z binders ins outs
