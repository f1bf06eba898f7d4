-- `put_name`: the characters in front, and behind them the label that is found, shortened, or the word and the number. Assumes nothing.
use Rattle.word_sheet.proofs.Naming.{named_by_label, named_by_number}
use Rattle.word_sheet.proofs.put_name.Goals as goal

pub returns-in-Some : goal.returns-in-Some
returns-in-Some c =
    let label = c.in-Some.ensures in
    named_by_label _ _ _ _ c.requires.0 c.requires.2 c.put_text-next.ensures label.has_bytes label.found (rw c.own_bytes.ensures at c.shortened.ensures) c.put_text.ensures

pub returns-in-None : goal.returns-in-None
returns-in-None c =
    named_by_number _ _ _ _ c.requires.0 c.requires.2 c.put_text-next.ensures c.in-None.ensures.found c.put_text-said.ensures c.put_decimal.ensures
