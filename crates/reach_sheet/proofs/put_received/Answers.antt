-- `put_received`: the lines of all places, and behind them the phrase. Assumes nothing.
use Rattle.putting.proofs.Putting.{put_then, put_same}
use Rattle.reach_sheet.proofs.Reached.{complete_is}
use Rattle.reach_sheet.proofs.put_received.Goals as goal

pub returns : goal.returns
returns c = put_same (complete_is _ c.if-received-ne0.false) (put_then c.put_lines-next.ensures c.put_text.ensures)
