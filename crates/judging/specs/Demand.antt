-- Demand 3 as one statement, of the verdict on a plan.
-- Assumes nothing.
use Rattle.std.specs.Prelude.{ℕ, ◌≡◌, ◌↔◌, ◌≢◌}
use Rattle.reading.specs.Plan.{Plan}
use Rattle.solving.specs.Solutions.{Sets}
use Rattle.solving.specs.Least.{Least, AcceptableIn}
use Rattle.judging.specs.declared.Breach.{Breach}
use Rattle.judging.specs.declared.Verdict.{Verdict}
use Rattle.judging.specs.Verdict.{Lower, Discreet, IsBreach, NotAfter}
use Rattle.judging.specs.Judge.{yes_bytes, no_bytes, no_verdict, verdict_bytes}

-- g is lower than h in the plan
abbrev pub lower_in : Plan → ℕ → ℕ → Type 0
lower_in plan = Lower plan.head.top

-- there is a verdict. It is yes exactly if there is an acceptable solution that is discreet; a no's breach is in every acceptable
-- solution, and no smaller breach is in the least one
pub record Demand3 (plan : Plan) (v : Verdict) : Type 1 where
  pub given : verdict_bytes v ≢ no_verdict
  pub yes_exactly : (verdict_bytes v ≡ yes_bytes) ↔ ((t : Sets) × AcceptableIn plan t × Discreet (lower_in plan) t)
  pub in_every : (b : Breach) → verdict_bytes v ≡ no_bytes b → (t : Sets) → AcceptableIn plan t → IsBreach (lower_in plan) t b
  pub no_smaller : (b : Breach) → verdict_bytes v ≡ no_bytes b → (s : Sets) → Least plan s → (d : Breach) → IsBreach (lower_in plan) s d
      → NotAfter b d
