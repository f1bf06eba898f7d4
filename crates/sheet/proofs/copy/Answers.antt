-- `copy`: the sheet's characters are put where the buffer holds them. Assumes nothing.
use Rattle.sheet.proofs.Writing.{whole_wrote}
use Rattle.sheet.proofs.copy.Goals as goal

pub returns : goal.returns
returns c =
    let wrote = whole_wrote c.if-buffer-characters.false c.put_text.ensures in
    rw c.characters-characters.ensures at wrote
