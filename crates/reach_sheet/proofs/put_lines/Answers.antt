-- `put_lines`: what is left to be put are the lines of the places from the place on. Assumes nothing.
use native.Mathlib.Omega.{arith}
use Rattle.reach_sheet.proofs.Reached.{place_room, place_step, places_end}
use Rattle.reach_sheet.proofs.put_lines.Goals as goal

pub put_place-next-requires-clause-room : goal.put_place-next-requires-clause-room
put_place-next-requires-clause-room c = place_room _ _ _ c.loop-place.invariant (omega arith) c.requires

pub loop-place-preserved : goal.loop-place-preserved
loop-place-preserved c = place_step _ _ _ c.loop-place.invariant (omega arith) c.put_place-next.ensures

pub returns : goal.returns
returns c = places_end _ _ _ c.loop-place.invariant (omega arith)
