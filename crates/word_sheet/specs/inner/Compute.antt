-- The word sheet that the checker computes with. That it is the word sheet of WordSheet.antt is proved in proofs/Words.antt.
-- Assumes nothing.
use Rattle.std.specs.Prelude.{ℕ, List}
use Rattle.reading.specs.Plan.{plan_in}
use Rattle.judging.specs.inner.Compute.{answer_of}
use Rattle.word_sheet.specs.WordSheet.{labels_of, word_sheet_of}

-- of a text within an allowance of rounds
unfoldable pub word_sheet_for : List ℕ → ℕ → List ℕ
word_sheet_for plan allowance = word_sheet_of (labels_of (plan_in plan)) (answer_of (plan_in plan) allowance).verdict
