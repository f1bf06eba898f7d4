-- For the contracts of the code's inner functions alone: the parts of a solution, how many sets are not empty, and the parts of a sheet.
-- Assumes nothing.
use Rattle.std.specs.Prelude.{ℕ, not, List, ◌++◌, count_by}
use Rattle.sets.specs.Set.{Set, is_none}
use Rattle.sets.specs.Rows.{SetRow}
use Rattle.reading.specs.declared.Refusal.{Refusal}
use Rattle.solving.specs.declared.Solution.{Solution}
use Rattle.solving.specs.declared.Solved.{Solved}
use Rattle.judging.specs.declared.Verdict.{Verdict}
use Rattle.judging.specs.declared.Verdict.TheVariants.{Unjudged, Yes, No}
use Rattle.judging.specs.Judge.{verdict_bytes}
use Rattle.sheet.specs.declared.rows.Part.{Part}
use Rattle.sheet.specs.declared.rows.Part.TheVariants.{Binders, Ins, Outs}
use Rattle.putting.specs.Characters.{hex_line, hex_lines}
use Rattle.sheet.specs.Sheet.{count_line, binder_name, in_name, out_name, set_line, set_lines, refusal_line, phrase}

-- what stands in front of a set in a row's lines
abbrev pub part_name : Part → ℕ → List ℕ
part_name Binders = binder_name
part_name Ins = in_name
part_name Outs = out_name

-- a set's line, if it has one
abbrev pub set_text : Part → ℕ → Set → List ℕ
set_text part place set = hex_lines (set_line (part_name part place) set)

-- a row's lines
abbrev pub row_text : Part → SetRow → List ℕ
row_text part row = hex_lines (set_lines (part_name part) 0 row)

-- a solution's lines
abbrev pub solution_text : Solution → List ℕ
solution_text s = row_text Binders s.binders ++ (row_text Ins s.ins ++ row_text Outs s.outs)

-- how many sets are not empty
abbrev pub filled_in : SetRow → ℕ
filled_in row = count_by (λ set. not (is_none set)) row

-- the sheet of a refusal, and that of a solution with the bytes of its verdict and their phrase
abbrev pub refusal_text : Refusal → List ℕ
refusal_text f = hex_line (refusal_line f) ++ phrase Unjudged

abbrev pub judged_text : Solved → List ℕ → List ℕ → List ℕ
judged_text s bytes phrase = hex_line (count_line s.count) ++ (solution_text s.solution ++ (hex_line bytes ++ phrase))

-- the sheet of what solving and judging answer, in the parts that are put one behind the other
abbrev pub text_of : Solved → Verdict → List ℕ
text_of s Unjudged = refusal_text s.refusal
text_of s Yes = judged_text s (verdict_bytes Yes) (phrase Yes)
text_of s (No b) = judged_text s (verdict_bytes (No b)) (phrase (No b))
