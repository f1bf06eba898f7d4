-- Behind some levels what was sent at those is joined in.
-- Assumes nothing.
use Rattle.sets.specs.Set.{Has}
use Rattle.sets.specs.Rows.{Joins, Over}
use Rattle.solving.specs.inner.Table.{ins_at, SentOn}
use Rattle.solving.proofs.table.gather.Given as goal

abbrev pub invariant-loop-from : goal.invariant-loop-from
invariant-loop-from l = Joins l.initial.new l.new (Over (ins_at l.level) (Has l.channels) (SentOn l.old l.from))
