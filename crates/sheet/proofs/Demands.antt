-- What the contracts of `write` and `whole` come to, over texts: each admits one outcome; and demand 1. Assumes nothing.
use Prim.Native.Nat.{ℕ, ◌≤◌}
use mathlib.Core.Path.{◌≡◌, ap, subst}
use mathlib.Core.List.{List, [], ◌∷◌, ◌++◌}
use native.Mathlib.Omega.{arith}
use lib.ListN.{length, drop}
use Rattle.reading.specs.declared.Refusal.{Refusal}
use Rattle.reading.specs.Plan.{plan_in}
use Rattle.reading.specs.Promise.{Kept}
use Rattle.reading.proofs.Promise.{kept}
use Rattle.solving.specs.declared.Solved.{Solved}
use Rattle.solving.specs.Solve.{refused_by, over_allowance}
use Rattle.solving.specs.Demand.{Demand2}
use Rattle.solving.proofs.Demands.{demand_2}
use Rattle.judging.specs.declared.Answer.{Answer}
use Rattle.judging.specs.declared.Verdict.TheVariants.{Unjudged}
use Rattle.judging.specs.Judge.{VerdictBeside, Judges}
use Rattle.judging.proofs.Verdicts.{verdict_once}
use Rattle.judging.proofs.Demands.{once as answer_once}
use Rattle.sheet.specs.Sheet.{sheet_of, SheetFor}
use Rattle.sheet.specs.Write.{Written, values_of, Writes}
use Rattle.sheet.specs.Demand.{refusal_of, Demand1}
use Rattle.sheet.proofs.Writing.{OneWritten, OneWhole, one_written, one_whole}
use Rattle.sheet.proofs.Sheets.{sheet_once}

-- ---- outcomes

-- any two that the contracts admit are equal
pub once : OneWritten SheetFor
once = one_written SheetFor sheet_once

pub whole_once : OneWhole SheetFor
whole_once = one_whole SheetFor sheet_once

-- ---- demand 1

-- a text that solving refuses has no verdict
refusal_answer : (f : Refusal) (a : Answer) → 1 ≤ f.number → a.solved ≡ refused_by f → VerdictBeside a.solved a.verdict → a ≡ refusal_of f
refusal_answer f a some solved beside = λ i. record { solved = solved i; verdict = unjudged i }
  where
    number : a.solved.refusal.number ≡ f.number
    number = ap (λ (s : Solved). s.refusal.number) solved

    unjudged : a.verdict ≡ Unjudged
    unjudged = verdict_once a.verdict Unjudged (beside.refused (λ e. omega (arith, e, some, number)))

pub demand_1 : (text : List ℕ) (allowance : ℕ) (before : List ℕ) (returned : Written) (after : List ℕ) → Writes SheetFor text allowance before returned after
    → Demand1 text allowance before returned after
demand_1 text allowance before returned after w = record {
  answer = answer;
  judged = judged;
  only = λ a j. answer_once text allowance a answer j judged;
  refusals = λ f e.
      let k = subst Kept e (kept text) in
      record { number = k.0; is = refusal_answer f answer k.0.0 (solved.refusals f e) judged.verdict };
  over = λ plan e exceeds.
      let demanded = solved.plans plan e in
      refusal_answer over_allowance answer (omega arith) (demanded.over (exceeds demanded.count demanded.counts)) judged.verdict;
  untouched = λ h. subst (λ s. (values_of returned ≡ 15 ∷ length s ∷ []) × (after ≡ before)) is (w.wrote.longer (omega (arith, ap length is)));
  written = λ h.
      subst (λ s. (values_of returned ≡ 0 ∷ length s ∷ []) × (after ≡ s ++ drop (length s) before)) is (w.wrote.otherwise (omega (arith, ap length is)));
}
  where
    answer : Answer
    answer = w.of_text.answer

    judged : Judges (plan_in text) allowance answer
    judged = w.of_text.judged

    solved : Demand2 (plan_in text) allowance answer.solved
    solved = demand_2 text allowance answer.solved judged.solved

    is : w.sheet ≡ sheet_of answer
    is = w.of_text.is
