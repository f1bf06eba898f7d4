-- `write`: the whole sheet is copied. Assumes nothing.
use Rattle.sheet.proofs.Writing.{copied}
use Rattle.word_sheet.proofs.write.Goals as goal

pub returns : goal.returns
returns c = copied c.whole.ensures c.copy.ensures
