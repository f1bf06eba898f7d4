-- Whole sheets: their parts in the order in which the code puts them, and how long they are. Assumes nothing.
use Prim.Native.Nat.{ℕ, ◌+◌, ◌*◌}
use mathlib.Core.Path.{◌≡◌, refl, ap, ◌∙◌}
use mathlib.Core.List.{List, [], ◌∷◌, ◌++◌, append_assoc, append-nil}
use native.Mathlib.Omega.{arith}
use lib.ListN.{length, length-append}
use Rattle.solving.specs.declared.Solution.{Solution}
use Rattle.solving.specs.declared.Solved.{Solved}
use Rattle.reading.specs.declared.Refusal.{Refusal}
use Rattle.judging.specs.declared.Verdict.{Verdict}
use Rattle.judging.specs.declared.Verdict.TheVariants.{Unjudged, Yes, No}
use Rattle.judging.specs.Judge.{verdict_bytes}
use Rattle.sheet.specs.declared.rows.Part.TheVariants.{Binders, Ins, Outs}
use Rattle.putting.specs.Characters.{hex_line, hex_lines}
use Rattle.sheet.specs.Sheet.{count_line, binder_name, in_name, out_name, set_lines, solution_lines, solved_lines, refusal_line, byte_lines, phrase}
use Rattle.sheet.specs.inner.Working.{row_text, solution_text, filled_in, refusal_text, judged_text, text_of}
use Rattle.putting.proofs.Characters.{line_length, lines_append}
use Rattle.sheet.proofs.Filling.{lines_size}

-- ---- a solution's lines

pub solution_parts : (s : Solution) → hex_lines (solution_lines s) ≡ solution_text s
solution_parts s =
    let binders = set_lines binder_name 0 s.binders in
    let ins = set_lines in_name 0 s.ins in
    let outs = set_lines out_name 0 s.outs in
    lines_append binders (ins ++ outs) ∙ ap (λ l. hex_lines binders ++ l) (lines_append ins outs)

pub solution_size : (s : Solution) → length (solution_text s) ≡ 13 * filled_in s.binders + 15 * (filled_in s.ins + filled_in s.outs)
solution_size s =
    let first = length-append (row_text Binders s.binders) (row_text Ins s.ins ++ row_text Outs s.outs) in
    let second = length-append (row_text Ins s.ins) (row_text Outs s.outs) in
    let binders = lines_size binder_name 13 (λ i. refl) 0 s.binders in
    let ins = lines_size in_name 15 (λ i. refl) 0 s.ins in
    let outs = lines_size out_name 15 (λ i. refl) 0 s.outs in
    omega arith

-- ---- the sheet

-- lines, one more line, and a phrase
lines_then : (ls : List (List ℕ)) (l p : List ℕ) → hex_lines (ls ++ (l ∷ [])) ++ p ≡ hex_lines ls ++ (hex_line l ++ p)
unfolding hex_lines
lines_then ls l p =
    ap (λ s. s ++ p) (lines_append ls (l ∷ []) ∙ ap (λ s. hex_lines ls ++ s) (append-nil (hex_line l)))
    ∙ append_assoc (hex_lines ls) (hex_line l) p

-- those in front of a verdict, its bytes, and a phrase
judged_parts : (s : Solved) (l p : List ℕ) → hex_lines (solved_lines s ++ (l ∷ [])) ++ p ≡ judged_text s l p
unfolding hex_lines
judged_parts s l p =
    let count = hex_line (count_line s.count) in
    let last = hex_line l ++ p in
    lines_then (solved_lines s) l p
    ∙ (append_assoc count (hex_lines (solution_lines s.solution)) last ∙ ap (λ ls. count ++ (ls ++ last)) (solution_parts s.solution))

-- the sheet of what is answered
pub sheet_parts : (s : Solved) (v : Verdict) → hex_lines (byte_lines s v) ++ phrase v ≡ text_of s v
unfolding hex_lines
sheet_parts s Unjudged = lines_then [] (refusal_line s.refusal) (phrase Unjudged)
sheet_parts s Yes = judged_parts s (verdict_bytes Yes) (phrase Yes)
sheet_parts s (No b) = judged_parts s (verdict_bytes (No b)) (phrase (No b))

-- ---- lengths

pub refusal_size : (f : Refusal) → length (refusal_text f) ≡ 17
refusal_size f = omega (arith, length-append (hex_line (refusal_line f)) (phrase Unjudged), line_length (refusal_line f))

pub judged_size : (s : Solved) (l p : List ℕ) → length (judged_text s l p) ≡ 8 + length (solution_text s.solution) + 2 * length l + length p
judged_size s l p =
    let text = solution_text s.solution in
    let lines = length-append (hex_line (count_line s.count)) (text ++ (hex_line l ++ p)) in
    let count = line_length (count_line s.count) in
    omega (arith, length-append text (hex_line l ++ p), length-append (hex_line l) p, line_length l)

-- what the search lacks where a length is told
pub ruleset sizes = (refusal_size, judged_size)
