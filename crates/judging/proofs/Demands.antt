-- What the contract of `judge` comes to, for every text and allowance: it admits one answer, which is computed and is demand 3's. The least
-- solution is in every acceptable one, so a breach of the least is in all of them, and the least is discreet as soon as any is.
-- Assumes nothing.
use Prim.Native.Nat.{ℕ, ◌≤◌}
use mathlib.Core.Path.{◌≡◌, sym, ap, subst, subst⁻¹, ◌∙◌}
use mathlib.Core.List.{List}
use native.Mathlib.Decide.{ℕ_discrete}
use Rattle.std.specs.Prelude.{Ok}
use Rattle.reading.specs.Plan.{Plan, plan_in}
use Rattle.solving.specs.declared.Solved.{Solved}
use Rattle.solving.specs.Solutions.{in_set, out_set, Sets, Contained, members_in}
use Rattle.solving.specs.Rounds.{Count}
use Rattle.solving.specs.Demand.{LeastAnswer}
use Rattle.solving.proofs.Leastness.{count_unique}
use Rattle.solving.proofs.Demands.{once as solved_once, computed as solved_computed, demand_2}
use Rattle.judging.specs.declared.Answer.{Answer}
use Rattle.judging.specs.declared.Breach.{Breach}
use Rattle.judging.specs.declared.Verdict.{Verdict}
use Rattle.judging.specs.Verdict.{Lower, Discreet, IsBreach}
use Rattle.judging.specs.Judge.{VerdictOn, VerdictBeside, Judges}
use Rattle.judging.specs.Demand.{lower_in, Demand3}
use Rattle.judging.specs.inner.Compute.{answer_of}
use Rattle.judging.proofs.Computed.{verdict_for_computed}
use Rattle.judging.proofs.Verdicts.{verdict_once, verdict_on_once}

-- ---- any two outcomes that the contract admits are equal

beside_once : (s : Solved) (v w : Verdict) → VerdictBeside s v → VerdictBeside s w → v ≡ w
beside_once s v w a b = go (ℕ_discrete s.refusal.number 0)
  where
    go : Dec (s.refusal.number ≡ 0) → v ≡ w
    go (yes e) = verdict_on_once v w (a.answered e) (b.answered e)
    go (no n) = verdict_once v w (a.refused n ∙ sym (b.refused n))

same_answer : (r q : Answer) → r.solved ≡ q.solved → VerdictBeside r.solved r.verdict → VerdictBeside q.solved q.verdict → r ≡ q
same_answer r q e a b = λ i. record { solved = e i; verdict = same i }
  where
    same : r.verdict ≡ q.verdict
    same = beside_once r.solved r.verdict q.verdict a (subst⁻¹ (λ s. VerdictBeside s q.verdict) e b)

pub once : (text : List ℕ) (allowance : ℕ) (r q : Answer) → Judges (plan_in text) allowance r → Judges (plan_in text) allowance q → r ≡ q
once text allowance r q a b =
    same_answer r q (solved_once text allowance r.solved q.solved a.solved b.solved) a.verdict b.verdict

-- it admits the computed one
pub computed : (text : List ℕ) (allowance : ℕ) → Judges (plan_in text) allowance (answer_of (plan_in text) allowance)
computed text allowance = record { solved = solved_computed text allowance; verdict = verdict_for_computed _ }

-- ---- demand 3

breach_grows : {lower : ℕ → ℕ → Type 0} {s t : Sets} {b : Breach} → Contained s t → IsBreach lower s b → IsBreach lower t b
breach_grows {lower} {s} {t} {b} c w = record {
  below = w.below;
  sent = c (out_set b.higher b.channel b.handle) w.sent;
  received = c (in_set b.lower b.channel b.handle) w.received;
}

discreet_shrinks : {lower : ℕ → ℕ → Type 0} {s t : Sets} → Contained s t → Discreet lower t → Discreet lower s
discreet_shrinks contained d h g l c o x y = d h g l c o (contained (out_set h c o) x) (contained (in_set g c o) y)

-- the verdict on the least solution
least_demand : (plan : Plan) (n : ℕ) (s : Solved) (v : Verdict) → LeastAnswer plan n s → VerdictBeside s v → Demand3 plan v
least_demand plan n s v a on = record {
  given = judged.given;
  yes_exactly = (
    λ e. (sets, record { within = a.within; acceptable = a.least.acceptable }, judged.clear.0 e),
    λ w. judged.clear.1 (discreet_shrinks (a.least.least w.0 w.1.acceptable) w.2),
  );
  in_every = λ b e t w. breach_grows (a.least.least t w.acceptable) ((judged.breach b).0 e).breach;
  no_smaller = λ b e t least d w. ((judged.breach b).0 e).first d (breach_grows (least.least sets a.least.acceptable) w);
}
  where
    sets : Sets
    sets = members_in s.solution

    judged : VerdictOn (lower_in plan) sets v
    judged = subst (λ h. VerdictOn (Lower h.top) sets v) a.head (on.answered (ap (λ f. f.number) a.refusal))

-- for every text that reads as a plan, and every allowance that its count is within
pub demand_3 : (text : List ℕ) (allowance : ℕ) (r : Answer) → Judges (plan_in text) allowance r
    → (plan : Plan) → plan_in text ≡ Ok plan → (n : ℕ) → Count plan n → n ≤ allowance → Demand3 plan r.verdict
demand_3 text allowance r j plan e n counts enough =
    let demanded = (demand_2 text allowance r.solved j.solved).plans plan e in
    let within = subst (λ m. m ≤ allowance) (count_unique plan n demanded.count counts demanded.counts) enough in
    least_demand plan demanded.count r.solved r.verdict (demanded.answered within) j.verdict
