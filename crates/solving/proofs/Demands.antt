-- Demand 2 over texts, and that the contract of `solve` admits one outcome only: the theorems on outcomes, at what reading promises
-- of every text. Assumes nothing.
use Prim.Native.Nat.{ℕ, ◌≤◌}
use mathlib.Core.Path.{◌≡◌, ap}
use mathlib.Core.List.{List}
use mathlib.Core.Logic.{◌≢◌}
use native.Mathlib.Omega.{arith}
use Rattle.std.specs.Prelude.{Ok, Err}
use Rattle.reading.specs.declared.Refusal.{Refusal}
use Rattle.reading.specs.Plan.{Outcome, Plan, plan_in}
use Rattle.reading.specs.Promise.{Kept}
use Rattle.reading.proofs.Promise.{kept}
use Rattle.solving.specs.declared.Solved.{Solved}
use Rattle.solving.specs.Rounds.{round_ceiling}
use Rattle.solving.specs.Solve.{Solves}
use Rattle.solving.specs.Demand.{Demand2}
use Rattle.solving.specs.inner.Compute.{solved_of}
use Rattle.solving.proofs.Promises.{solves_once, outcome_computed, answered_at_ceiling, outcome_demand}

-- any two outcomes that the contract admits are equal
pub once : (text : List ℕ) (allowance : ℕ) (r q : Solved) → Solves (plan_in text) allowance r → Solves (plan_in text) allowance q → r ≡ q
once text = solves_once (plan_in text)

-- it admits the computed one
pub computed : (text : List ℕ) (allowance : ℕ) → Solves (plan_in text) allowance (solved_of (plan_in text) allowance)
computed text allowance = outcome_computed (plan_in text) allowance (kept text)

pub demand_2 : (text : List ℕ) (allowance : ℕ) (r : Solved) → Solves (plan_in text) allowance r → Demand2 (plan_in text) allowance r
demand_2 text allowance r = outcome_demand (plan_in text) allowance r (kept text)

-- with an allowance of 17,409 no text is refused 14
pub never_14 : (text : List ℕ) (allowance : ℕ) (r : Solved) → round_ceiling ≤ allowance → Solves (plan_in text) allowance r → r.refusal.number ≢ 14
never_14 text allowance r enough = go (plan_in text) (kept text)
  where
    number : {f g : Refusal} → f ≡ g → f.number ≡ g.number
    number e = ap (λ (f : Refusal). f.number) e

    go : (o : Outcome Plan) → Kept o → Solves o allowance r → r.refusal.number ≢ 14
    go (Err f) k s n = let e = ap (λ (q : Solved). q.refusal.number) s in let l = k.0.2 in omega arith
    go (Ok plan) k s n = let e = number (answered_at_ceiling plan allowance r k enough s).refusal in omega arith
