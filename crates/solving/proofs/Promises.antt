-- What the contract of `solve` comes to, whatever a text reads as: it admits one answer, which is computed and is demand 2's.
-- Assumes nothing.
use Prim.Native.Nat.{ℕ, ◌<◌, ◌≤◌}
use mathlib.Core.Path.{◌≡◌, refl, sym, ap, subst, subst⁻¹, ◌∙◌}
use mathlib.Core.List.{List, []}
use mathlib.Core.Logic.Iff
use mathlib.Core.Logic.{◌↔◌, inl, inr}
use native.Mathlib.Omega.{arith}
use Rattle.std.specs.Prelude.{Some, None, Ok, Err}
use Rattle.sets.proofs.Listed.{Mem}
use Rattle.lines.specs.declared.Head.{Head}
use Rattle.lines.specs.Promise.{HeadWithin}
use Rattle.reading.specs.Promise.{PlanWithin, Kept}
use Rattle.reading.specs.Plan.{Outcome, Plan}
use Rattle.solving.specs.declared.Solution.{Solution}
use Rattle.solving.specs.declared.Solved.{Solved}
use Rattle.solving.specs.Solutions.{Fact, binder_set, in_set, out_set, members_in, Sized, InRange}
use Rattle.solving.specs.Rounds.{after, Count, round_ceiling}
use Rattle.solving.specs.Least.{Least, LeastArrays}
use Rattle.solving.specs.Solve.{Answered, Solves, refused_by, over_allowance}
use Rattle.solving.specs.Demand.{LeastAnswer, PlanDemand, Demand2}
use Rattle.solving.specs.inner.Compute.{Run, run, solution_of, solved_by, solved_of}
use Rattle.solving.proofs.Leastness.{count_least, count_unique, least_same, busy_exceeds}
use Rattle.solving.proofs.Ranges.{after_within}
use Rattle.solving.proofs.Computed.{RunIs, whole_run}
use Rattle.solving.proofs.Counting.{count_exists, count_bound, count_ceiling}
use Rattle.solving.proofs.Entries.{Placed, solution_sized, solution_is, solution_same}
use Rattle.solving.proofs.Steps.{level_fits}

-- ---- two answers that the contract admits are equal

least_same_arrays : (p : Plan) (s t : Solution) → Sized s → Sized t → LeastArrays p s → LeastArrays p t → s ≡ t
least_same_arrays p s t x y a b = solution_same s t x y (λ f. (a.least t b.acceptable f, b.least s a.acceptable f))

answered_once : (p : Plan) (allowance : ℕ) (r q : Solved) → Answered p allowance r → Answered p allowance q → r ≡ q
answered_once p allowance r q a b = λ i. record {
  refusal = (a.refusal ∙ sym b.refusal) i;
  head = (a.head ∙ sym b.head) i;
  count = count_unique p r.count q.count a.count b.count i;
  solution = least_same_arrays p r.solution q.solution a.sized b.sized a.least b.least i;
}

pub solves_once : (o : Outcome Plan) (allowance : ℕ) (r q : Solved) → Solves o allowance r → Solves o allowance q → r ≡ q
solves_once (Err f) allowance r q a b = a ∙ sym b
solves_once (Ok plan) allowance r q (inl a) (inl b) = answered_once plan allowance r q a b
solves_once (Ok plan) allowance r q (inl a) (inr b) = let z = b.exceeds r.count a.count in let w = a.allowed in absurd (omega arith)
solves_once (Ok plan) allowance r q (inr a) (inl b) = let z = a.exceeds q.count b.count in let w = b.allowed in absurd (omega arith)
solves_once (Ok plan) allowance r q (inr a) (inr b) = a.is ∙ sym b.is

-- ---- the computed answer is the one

placed : (h : Head) → HeadWithin h → (f : Fact) → InRange h f → Placed f
placed h w (binder_set b o) r = let k = w.binders in let l = r.0 in omega arith
placed h w (in_set l c o) r = (level_fits h l w r.0, let k = w.channels in let z = r.1 in omega arith)
placed h w (out_set l c o) r = (level_fits h l w r.0, let k = w.channels in let z = r.1 in omega arith)

module _ (plan : Plan) (g : PlanWithin plan) (n : ℕ) (s : List Fact) (c : Count plan n)
    (e : (f : Fact) → after plan c.earlier f ↔ Mem f s) where
  in_range : (f : Fact) → after plan c.earlier f → InRange plan.head f
  in_range f = after_within plan g c.earlier f

  members : (f : Fact) → after plan c.earlier f ↔ members_in (solution_of s) f
  members f = Iff.trans (e f) (Iff.symm (solution_is s (λ k m. placed plan.head g.head k (in_range k ((e k).1 m))) f))

  computed_least : Least plan (members_in (solution_of s))
  computed_least = least_same plan (after plan c.earlier) (members_in (solution_of s)) members (count_least plan n c)

  computed_answer : (allowance : ℕ) → n ≤ allowance → Answered plan allowance (solved_by plan.head (Some (n, s)))
  computed_answer allowance l = record {
    refusal = refl;
    head = refl;
    count = c;
    allowed = l;
    least = record { acceptable = computed_least.acceptable; least = λ t. computed_least.least (members_in t) };
    within = λ f m. in_range f ((members f).1 m);
    sized = solution_sized s;
  }

  computed_demand : LeastAnswer plan n (solved_by plan.head (Some (n, s)))
  computed_demand = record {
    refusal = refl;
    head = refl;
    count = refl;
    least = computed_least;
    within = λ f m. in_range f ((members f).1 m);
  }

pub outcome_computed : (o : Outcome Plan) (allowance : ℕ) → Kept o → Solves o allowance (solved_of o allowance)
outcome_computed (Err f) allowance g = refl
outcome_computed (Ok plan) allowance g = go (run plan allowance 0 []) (whole_run plan allowance)
  where
    go : (r : Run) → RunIs plan allowance r → Solves (Ok plan) allowance (solved_by plan.head r)
    go None w = inr (record { exceeds = busy_exceeds plan allowance w; is = refl })
    go (Some (n, s)) w = inl (computed_answer plan g n s w.0 w.2 allowance w.1)

solves_computed : (o : Outcome Plan) (allowance : ℕ) (r : Solved) → Kept o → Solves o allowance r → r ≡ solved_of o allowance
solves_computed o allowance r g s = solves_once o allowance r (solved_of o allowance) s (outcome_computed o allowance g)

-- ---- demand 2

-- with 17,409 rounds no plan is refused 14
pub answered_at_ceiling : (plan : Plan) (allowance : ℕ) (r : Solved) → PlanWithin plan → round_ceiling ≤ allowance → Solves (Ok plan) allowance r
    → Answered plan allowance r
answered_at_ceiling plan allowance r g l (inl a) = a
answered_at_ceiling plan allowance r g l (inr o) =
    let c = count_exists plan g in
    let b = count_bound plan g c.0 c.1 in
    let k = count_ceiling plan.head g.head in
    let z = o.exceeds c.0 c.1 in
    absurd (omega arith)

plan_demand : (plan : Plan) (allowance : ℕ) (r : Solved) → PlanWithin plan → r ≡ solved_of (Ok plan) allowance → PlanDemand plan allowance r
plan_demand plan allowance r g e =
    let c = count_exists plan g in
    let b = count_bound plan g c.0 c.1 in
    let k = count_ceiling plan.head g.head in
    let w = go c.0 c.1 (run plan allowance 0 []) (whole_run plan allowance) in
    record {
      count = c.0;
      counts = c.1;
      bound = b;
      ceiling = omega arith;
      answered = λ l. subst⁻¹ (LeastAnswer plan c.0) e (w.0 l);
      over = λ l. e ∙ w.1 l;
    }
  where
    go : (n : ℕ) → Count plan n → (q : Run) → RunIs plan allowance q
        → (n ≤ allowance → LeastAnswer plan n (solved_by plan.head q))
        × (allowance < n → solved_by plan.head q ≡ refused_by over_allowance)
    go n c None w = ((λ l. absurd (let z = busy_exceeds plan allowance w n c in omega arith)), λ l. refl)
    go n c (Some (m, s)) w =
        let u = count_unique plan m n w.0 c in
        let v = w.1 in (
          (λ l. subst (λ k. LeastAnswer plan k (solved_by plan.head (Some (m, s)))) u (computed_demand plan g m s w.0 w.2)),
          λ l. absurd (omega arith),
        )

pub outcome_demand : (o : Outcome Plan) (allowance : ℕ) (r : Solved) → Kept o → Solves o allowance r → Demand2 o allowance r
outcome_demand o allowance r g s = record {
  refusals = λ f e. subst (λ k. Solves k allowance r) e s;
  plans = λ plan e. plan_demand plan allowance r (subst Kept e g) (solves_computed o allowance r g s ∙ ap (λ k. solved_of k allowance) e);
}
