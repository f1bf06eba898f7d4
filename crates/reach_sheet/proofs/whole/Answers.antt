-- `whole`: a blank array, which holds any reach sheet, with the sheet at its start. Assumes nothing.
use Rattle.reach_sheet.proofs.Reached.{reach_whole}
use Rattle.reach_sheet.proofs.whole.Goals as goal

pub returns : goal.returns
returns c = reach_whole c.reach-received.ensures _ c.put_received-size.ensures
