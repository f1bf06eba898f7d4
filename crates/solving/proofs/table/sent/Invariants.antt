-- Behind some levels the union is of what was sent at those.
-- Assumes nothing.
use Rattle.sets.specs.Set.{Has, Members}
use Rattle.solving.specs.inner.Table.{Sent}
use Rattle.solving.proofs.table.sent.Given as goal

abbrev pub invariant-loop-level : goal.invariant-loop-level
invariant-loop-level l = Members l.all (Sent l.table l.level (Has l.channels))
