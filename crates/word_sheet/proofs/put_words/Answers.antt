-- `put_words`: a phrase, or the line of the breach with the labels that the text reads as. Assumes nothing.
use mathlib.Core.Path.{subst}
use Rattle.word_sheet.specs.inner.Working.{VerdictTwoDigits}
use Rattle.word_sheet.proofs.Words.{read_bytes, read_labels_lem}
use Rattle.word_sheet.proofs.put_words.Goals as goal

pub put_breach-requires : goal.put_breach-requires
put_breach-requires c =
    (subst VerdictTwoDigits c.in-No.is c.requires.0, read_bytes _ _ c.read-reading.ensures, c.requires.1)

pub returns-in-No : goal.returns-in-No
returns-in-No c =
    rw (c.in-No.is, ← read_labels_lem _ _ c.read-reading.ensures) c.put_breach.ensures
