-- `channels_in`: the places passed have their first channels. Assumes nothing.
use Rattle.std.proofs.Common.{◌≡◌, ℕ, ◌<◌, get_or}
use Rattle.reaching.specs.inner.Working.{named_at}
use Rattle.reaching.proofs.channels_in.Given as goal

abbrev pub invariant-loop-place : goal.invariant-loop-place
invariant-loop-place l = (j : ℕ) → j < l.place → get_or l.channel-items j 0 ≡ named_at l.ins j
