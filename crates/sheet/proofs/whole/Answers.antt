-- `whole`: a blank array of 8,128 bytes, which holds any sheet, with the sheet at its start. Assumes nothing.
use native.Mathlib.Omega.{arith}
use Rattle.sheet.proofs.Sheets.{its_sheet, sheet_most, whole_sheet}
use Rattle.sheet.proofs.whole.Goals as goal

pub put_answer-size-requires : goal.put_answer-size-requires
put_answer-size-requires c = record { fits = omega (arith, sheet_most (its_sheet c.judge-answer.ensures)) }

pub invariant_of-result : goal.invariant_of-result
invariant_of-result c = record { counted = omega (arith, sheet_most (its_sheet c.judge-answer.ensures)) }

pub returns : goal.returns
returns c = whole_sheet c.judge-answer.ensures _ c.put_answer-size.ensures
