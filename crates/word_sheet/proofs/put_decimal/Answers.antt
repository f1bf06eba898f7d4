-- `put_decimal`: one digit, or two. Assumes nothing.
use Rattle.putting.proofs.Putting.{put_same}
use Rattle.word_sheet.proofs.Naming.{one_digit, two_digits}
use Rattle.word_sheet.proofs.put_decimal.Goals as goal

pub returns-then-number-lt10 : goal.returns-then-number-lt10
returns-then-number-lt10 c =
    put_same (one_digit _ c.if-number-lt10.true) c.put_text.ensures

pub returns : goal.returns
returns c =
    put_same (two_digits _ c.if-number-lt10.false c.requires.0) c.put_text-2.ensures
