-- The sheet of a text within an allowance: that there is one only and that it is computed, that 8,128 bytes always suffice, and that it is what the
-- code writes. All of it goes back to the one answer that the contract of `judge` admits. Assumes nothing.
use Prim.Native.Nat.{ℕ, ◌+◌, ◌*◌, ◌<◌, ◌≤◌}
use mathlib.Core.Path.{◌≡◌, refl, sym, ap, subst⁻¹, ◌∙◌}
use mathlib.Core.List.{List}
use mathlib.Core.Logic.{⊎_elim}
use native.Mathlib.Omega.{arith}
use lib.ListN.{length, replicate}
use Rattle.std.specs.Prelude.{Ok, Err}
use Rattle.std.proofs.lemmas.List.Sums.{count_by-le-length}
use Rattle.limits.specs.Limits.{most_binders, level_sets}
use Rattle.reading.specs.Plan.{Outcome, Plan, plan_in}
use Rattle.solving.specs.declared.Solved.{Solved}
use Rattle.solving.specs.Solutions.{Sized}
use Rattle.solving.specs.Solve.{Solves, refused_by}
use Rattle.judging.specs.declared.Answer.{Answer}
use Rattle.judging.specs.declared.Verdict.{Verdict}
use Rattle.judging.specs.declared.Verdict.TheVariants.{Unjudged, Yes, No}
use Rattle.judging.specs.Judge.{verdict_bytes, Judges}
use Rattle.judging.proofs.Demands.{once as answer_once, computed as answer_computed}
use Rattle.sheet.specs.declared.made.Sheet.{Sheet}
use Rattle.sheet.specs.Sheet.{phrase, sheet_of, SheetFor}
use Rattle.sheet.specs.Write.{Writes, longest_sheet, IsWhole}
use Rattle.sheet.specs.inner.Compute.{sheet_for}
use Rattle.sheet.specs.inner.Working.{solution_text, text_of}
use Rattle.putting.specs.Put.{Put}
use Rattle.sheet.proofs.Parts.{sheet_parts, solution_size, refusal_size, judged_size}
use Rattle.sheet.proofs.Writing.{OneSheet, short_wrote, whole_wrote, whole_put}

-- ---- the sheet

-- a text has one sheet within an allowance
pub sheet_once : OneSheet SheetFor
sheet_once text allowance s t a b =
    a.is ∙ (ap sheet_of (answer_once text allowance a.answer b.answer a.judged b.judged) ∙ sym b.is)

-- it is the computed one
pub sheet_computed : (text : List ℕ) (allowance : ℕ) → SheetFor text allowance (sheet_for text allowance)
unfolding sheet_for
sheet_computed text allowance = record { answer = _; judged = answer_computed text allowance; is = refl }

solves_sized : (o : Outcome Plan) (allowance : ℕ) (s : Solved) → Solves o allowance s → Sized s.solution
solves_sized o allowance s = go o
  where
    nothing : (f : _) → s ≡ refused_by f → Sized s.solution
    nothing f e = subst⁻¹ (λ r. Sized r.solution) e (record { binders = refl; ins = refl; outs = refl })

    go : (o : Outcome Plan) → Solves o allowance s → Sized s.solution
    go (Err f) e = nothing f e
    go (Ok plan) w = ⊎_elim (λ a. a.sized) (λ a. nothing _ a.is) w

-- 8,128 bytes always suffice
pub sheet_most : {text : List ℕ} {allowance : ℕ} {sheet : List ℕ} → SheetFor text allowance sheet → length sheet ≤ longest_sheet
sheet_most {text} {allowance} {sheet} s = omega (arith, ap length (s.is ∙ sheet_parts answer.solved answer.verdict), most answer.verdict)
  where
    answer : Answer
    answer = s.answer

    sized : Sized answer.solved.solution
    sized = solves_sized (plan_in text) allowance answer.solved s.judged.solved

    few : length (solution_text answer.solved.solution) ≤ 13 * most_binders + 15 * (level_sets + level_sets)
    few =
        let size = solution_size answer.solved.solution in
        omega (arith, sized.binders, sized.ins, sized.outs, count_by-le-length {X = ℕ})

    most : (v : Verdict) → length (text_of answer.solved v) ≤ longest_sheet
    most Unjudged = omega (arith, refusal_size answer.solved.refusal)
    most Yes = omega (arith, judged_size answer.solved (verdict_bytes Yes) (phrase Yes), few)
    most (No b) = omega (arith, judged_size answer.solved (verdict_bytes (No b)) (phrase (No b)), few)

-- ---- what the code returns

module _ {text : List ℕ} {allowance : ℕ} {a : Answer} (judged : Judges (plan_in text) allowance a) where
  pub its_sheet : SheetFor text allowance (text_of a.solved a.verdict)
  its_sheet = record { answer = a; judged = judged; is = sym (sheet_parts a.solved a.verdict) }

  pub short_writes : {before : List ℕ} {size : ℕ} → size ≡ length (text_of a.solved a.verdict) → length before < size
      → Writes SheetFor text allowance before (Err (record { needed = size })) before
  short_writes e l = record { sheet = text_of a.solved a.verdict; of_text = its_sheet; wrote = short_wrote e l }

  pub whole_writes : {before after : List ℕ} {next : ℕ} → length (text_of a.solved a.verdict) ≤ length before
      → Put before 0 (text_of a.solved a.verdict) after next → Writes SheetFor text allowance before (Ok next) after
  whole_writes l p = record { sheet = text_of a.solved a.verdict; of_text = its_sheet; wrote = whole_wrote l p }

  pub whole_sheet : (r : Sheet) → Put (replicate longest_sheet 0) 0 (text_of a.solved a.verdict) r.bytes r.size → IsWhole SheetFor text allowance r
  whole_sheet r p = whole_put _ r (sheet_most its_sheet) its_sheet p
