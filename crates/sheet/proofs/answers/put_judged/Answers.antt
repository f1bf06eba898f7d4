-- `put_judged`: the count's line, the sets' lines, and the last two. Assumes nothing.
use Rattle.putting.proofs.Putting.{put_then}
use Rattle.sheet.proofs.answers.put_judged.Goals as goal

pub returns : goal.returns
returns c =
    let counted = rw c.to_be_bytes.ensures at c.put_line-counted.ensures in
    put_then counted (put_then c.put_solution-next.ensures c.put_last.ensures)
