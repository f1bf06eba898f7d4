-- `handles_in`: the levels passed have the handles of their in sets. Assumes nothing.
use Rattle.std.proofs.Common.{ℕ, ◌<◌}
use Rattle.sets.specs.Set.{Members}
use Rattle.sets.specs.Rows.{set_at}
use Rattle.reaching.specs.inner.Working.{On}
use Rattle.reaching.proofs.handles_in.Given as goal

abbrev pub invariant-loop-level : goal.invariant-loop-level
invariant-loop-level l = (j : ℕ) → j < l.level → Members (set_at l.received-items j) (λ o. (c : ℕ) × On l.ins j o c)
