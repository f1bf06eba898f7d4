-- `next_name`: a frame that may stand among the free names alone has three bytes. Assumes nothing.
use mathlib.Core.Path.{ap}
use Rattle.lines.specs.declared.frames.Section.TheVariants.{FreeNames}
use Rattle.lines.specs.Frames.{rank}
use Rattle.lines.proofs.Table.{name_long, in_only}
use Rattle.lines.proofs.next_name.Goals as goal

pub name_in-requires : goal.name_in-requires
name_in-requires c =
    let here = in_only FreeNames _ (rw c.only.ensures at c.in_ok-frame_in.ensures.framing.allowed) in
    name_long _ _ c.in_ok-frame_in.ensures.framing.is_row (ap rank here)
