-- `write`: the sheet of the text is that of the answer which `judge` gives; the two returns are the two ways of writing it. Assumes nothing.
use native.Mathlib.Omega.{arith}
use Rattle.sheet.proofs.Sheets.{short_writes, whole_writes}
use Rattle.sheet.proofs.write.Goals as goal

pub returns-then-buffer-size : goal.returns-then-buffer-size
returns-then-buffer-size c = short_writes c.judge-answer.ensures c.length_of-size.ensures c.if-buffer-size.true

pub returns : goal.returns
returns c = whole_writes c.judge-answer.ensures (omega arith) c.put_answer.ensures
