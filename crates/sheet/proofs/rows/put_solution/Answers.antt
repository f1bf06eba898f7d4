-- `put_solution`: the three rows, one behind the other. Assumes nothing.
use Rattle.putting.proofs.Putting.{put_then}
use Rattle.sheet.proofs.rows.put_solution.Goals as goal

pub returns : goal.returns
returns c = put_then c.put_row-bound.ensures (put_then c.put_row-received.ensures c.put_row.ensures)
