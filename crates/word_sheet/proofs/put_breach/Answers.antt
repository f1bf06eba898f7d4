-- `put_breach`: the parts of the line, one behind the other. Assumes nothing.
use Rattle.word_sheet.proofs.Words.{breach_put}
use Rattle.word_sheet.proofs.put_breach.Goals as goal

pub returns : goal.returns
returns c =
    breach_put _ c.args.breach c.put_name-higher.ensures c.put_name-lower.ensures c.put_name-channel.ensures c.put_name-handle.ensures
    c.put_text.ensures
