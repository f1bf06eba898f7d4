-- `first_head`: a frame that may stand on the first line alone has six bytes. Assumes nothing.
use mathlib.Core.Path.{ap}
use Rattle.lines.specs.declared.frames.Section.TheVariants.{FirstLine}
use Rattle.lines.specs.Frames.{rank}
use Rattle.lines.proofs.Table.{head_long, in_only}
use Rattle.lines.proofs.first_head.Goals as goal

pub head_in-requires : goal.head_in-requires
head_in-requires c =
    let here = in_only FirstLine _ (rw c.only.ensures at c.in_ok-frame_in.ensures.framing.allowed) in
    head_long _ _ c.in_ok-frame_in.ensures.framing.is_row (ap rank here)
