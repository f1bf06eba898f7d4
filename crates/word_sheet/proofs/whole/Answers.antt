-- `whole`: a blank array, which holds any word sheet, with the sheet at its start. Assumes nothing.
use native.Mathlib.Omega.{arith}
use Rattle.word_sheet.proofs.Words.{its_sheet, words_most, verdict_two_digits, words_whole}
use Rattle.word_sheet.proofs.whole.Goals as goal

pub put_words-size-requires : goal.put_words-size-requires
put_words-size-requires c = (verdict_two_digits _ _ _ c.judge-answer.ensures, omega arith)

pub invariant_of-result : goal.invariant_of-result
invariant_of-result c = record { counted = omega (arith, words_most (its_sheet c.judge-answer.ensures)) }

pub returns : goal.returns
returns c = words_whole _ _ _ _ c.judge-answer.ensures c.put_words-size.ensures
