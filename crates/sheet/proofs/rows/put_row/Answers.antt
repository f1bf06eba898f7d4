-- `put_row`: what is left to be put are the lines of the sets from the place on. Assumes nothing.
use Rattle.sheet.proofs.Filling.{row_room, row_step, row_end}
use Rattle.sheet.proofs.rows.put_row.Goals as goal

pub put_set-next-requires-clause-room : goal.put_set-next-requires-clause-room
put_set-next-requires-clause-room c = row_room _ _ _ c.loop-place.invariant c.loop-place-test.true c.requires.room

pub loop-place-preserved : goal.loop-place-preserved
loop-place-preserved c = row_step _ _ _ c.loop-place.invariant c.loop-place-test.true c.put_set-next.ensures

pub returns : goal.returns
returns c = row_end _ _ _ c.loop-place.invariant c.loop-place-test.false
