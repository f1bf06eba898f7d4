-- What is joined, and what stands at the channels that are left, are what stands at all channels.
-- Assumes nothing.
use mathlib.Core.Logic.{◌↔◌, ◌⊎◌}
use Prim.Native.Nat.{ℕ}
use Rattle.sets.specs.Set.{Has}
use Rattle.sets.specs.Rows.{Together}
use Rattle.sets.proofs.rows.together.Given as goal

abbrev pub invariant-loop-c : goal.invariant-loop-c
invariant-loop-c l =
    (o : ℕ) → (Has l.all o ⊎ Together l.from l.start (Has l.c-iterator.left) o) ↔ Together l.from l.start (Has l.channels) o
