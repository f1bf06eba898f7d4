-- What judging answers: the verdict by document 01's numbers, on sets, and on a text within an allowance of rounds.
-- Assumes nothing.
use Rattle.std.specs.Prelude.{ℕ, ◌≡◌, List, [], ◌∷◌, ◌↔◌, ◌≢◌}
use Rattle.reading.specs.Plan.{Outcome, Plan}
use Rattle.solving.specs.declared.Solved.{Solved}
use Rattle.solving.specs.Solutions.{Sets, members_in}
use Rattle.solving.specs.Solve.{Solves}
use Rattle.judging.specs.declared.Answer.{Answer}
use Rattle.judging.specs.declared.Breach.{Breach}
use Rattle.judging.specs.declared.Verdict.{Verdict}
use Rattle.judging.specs.declared.Verdict.TheVariants.{Unjudged, Yes, No}
use Rattle.judging.specs.Verdict.{Lower, Discreet, FirstBreach}

-- 3001 for yes
abbrev pub yes_bytes : List ℕ
yes_bytes = 0x30 ∷ 0x01 ∷ []

-- 30 00 h g c o for no
abbrev pub no_bytes : Breach → List ℕ
no_bytes b = 0x30 ∷ 0x00 ∷ b.higher ∷ b.lower ∷ b.channel ∷ b.handle ∷ []

-- a refusal gives no verdict
abbrev pub no_verdict : List ℕ
no_verdict = []

-- the number and values of each verdict
abbrev pub verdict_bytes : Verdict → List ℕ
verdict_bytes Unjudged = no_verdict
verdict_bytes Yes = yes_bytes
verdict_bytes (No b) = no_bytes b

-- the verdict on sets: there is one, yes exactly if they are discreet, and a no with b exactly if b is their first breach
pub record VerdictOn (lower : ℕ → ℕ → Type 0) (s : Sets) (v : Verdict) : Type 0 where
  pub given : verdict_bytes v ≢ no_verdict
  pub clear : (verdict_bytes v ≡ yes_bytes) ↔ Discreet lower s
  pub breach : (b : Breach) → (verdict_bytes v ≡ no_bytes b) ↔ FirstBreach lower s b

-- the verdict beside what solving answers: none under a refusal, and otherwise the one on the least solution
pub record VerdictBeside (s : Solved) (v : Verdict) : Type 0 where
  pub refused : s.refusal.number ≢ 0 → verdict_bytes v ≡ no_verdict
  pub answered : s.refusal.number ≡ 0 → VerdictOn (Lower s.head.top) (members_in s.solution) v

-- what is answered, by what the text reads as
pub record Judges (o : Outcome Plan) (allowance : ℕ) (r : Answer) : Type 0 where
  pub solved : Solves o allowance r.solved
  pub verdict : VerdictBeside r.solved r.verdict
