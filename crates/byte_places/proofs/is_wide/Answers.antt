-- `is_wide`: the test of a narrow set, turned round. Assumes nothing.
use Rattle.sets.proofs.Width.{narrow_told}
use Rattle.byte_places.proofs.is_wide.Goals as goal

pub returns : goal.returns
returns c = cc (narrow_told _ _ _ c.is_narrow.ensures)
