-- `put_last`: a line, and behind it the phrase. Assumes nothing.
use Rattle.putting.proofs.Putting.{put_then}
use Rattle.putting.proofs.put_last.Goals as goal

pub returns : goal.returns
returns c = put_then c.put_line-next.ensures c.put_text.ensures
