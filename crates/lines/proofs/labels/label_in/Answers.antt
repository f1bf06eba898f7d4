-- `label_in`: a frame of the labels has 4 to 63 bytes. Assumes nothing.
use mathlib.Core.Path.{◌≡◌, ap}
use native.Mathlib.Omega.{arith}
use borrow.Author.Rules.{rules}
use Rattle.lines.specs.declared.frames.Section.TheVariants.{LabelLines}
use Rattle.lines.specs.Frames.{rank}
use Rattle.lines.proofs.Table.{label_long}
use Rattle.lines.proofs.labels.label_in.Goals as goal

pub overflow_sub-size_in : goal.overflow_sub-size_in
overflow_sub-size_in c =
    let own : c.args.frame.section ≡ LabelLines = search rules in
    omega (arith, label_long _ _ c.requires (ap rank own))

pub label_of-requires : goal.label_of-requires
label_of-requires c =
    let own : c.args.frame.section ≡ LabelLines = search rules in
    omega (arith, label_long _ _ c.requires (ap rank own))
