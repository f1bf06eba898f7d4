-- The verdict that the checker computes with: on sets as numbers, and on what a text reads as. It goes through the levels and channels where something
-- could go down, in the order of h, then g, then c. That it is the verdict of Judge.antt is proved in proofs/Computed.antt.
-- Assumes nothing.
use Rattle.std.specs.Prelude.{ℕ, zero, suc, Bool, ◌&&◌, not, cond, eqb, ltb, leb}
use Rattle.limits.specs.Limits.{most_channels, outermost, levels, place_of}
use Rattle.sets.specs.Set.{is_none}
use Rattle.sets.specs.Rows.{set_at}
use Rattle.sets.specs.inner.Compute.{shared, lowest}
use Rattle.reading.specs.Plan.{Outcome, Plan}
use Rattle.solving.specs.declared.Solution.{Solution}
use Rattle.solving.specs.declared.Solved.{Solved}
use Rattle.solving.specs.inner.Compute.{solved_of}
use Rattle.judging.specs.declared.Answer.{Answer}
use Rattle.judging.specs.declared.Verdict.{Verdict}
use Rattle.judging.specs.declared.Verdict.TheVariants.{Unjudged, Yes, No}

-- whether g is lower than h
abbrev pub is_lower : ℕ → ℕ → ℕ → Bool
is_lower k g h = not (eqb g outermost) && (not (eqb h outermost) && (leb h k && ltb g h))

-- the verdict that `turn` gives at n, by what the verdict of those behind n is, of which so many are left; behind them all it is `end`
unfoldable pub verdict_from : (ℕ → Verdict → Verdict) → ℕ → ℕ → Verdict → Verdict
verdict_from turn zero n end = end
verdict_from turn (suc left) n end = turn n (verdict_from turn left (suc n) end)

-- no with what goes down from level h to level g on channel c, and otherwise what the verdict later is
abbrev pub verdict_on : Solution → ℕ → ℕ → ℕ → Verdict → Verdict
verdict_on s h g c later =
    let handles = shared (set_at s.outs (place_of h c)) (set_at s.ins (place_of g c)) in
    let here = No (record { higher = h; lower = g; channel = c; handle = lowest handles }) in
    cond (is_none handles) later here

-- the same of every channel, where g is lower than h
abbrev pub verdict_to : ℕ → Solution → ℕ → ℕ → Verdict → Verdict
verdict_to k s h g later = let here = verdict_from (verdict_on s h g) most_channels 0 later in cond (is_lower k g h) here later

-- the verdict on a solution's sets, with the levels 0 to k
abbrev pub verdict_of : ℕ → Solution → Verdict
verdict_of k s = verdict_from (λ h. verdict_from (verdict_to k s h) levels 0) levels 0 Yes

-- the verdict beside what solving answers
abbrev pub verdict_for : Solved → Verdict
verdict_for s = let v = verdict_of s.head.top s.solution in cond (eqb s.refusal.number 0) v Unjudged

-- what judging answers, by what the text reads as
abbrev pub answer_of : Outcome Plan → ℕ → Answer
answer_of o allowance = let s = solved_of o allowance in record { solved = s; verdict = verdict_for s }
