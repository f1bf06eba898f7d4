-- What stands in the row, and what is to be joined at the channels that are left, are what stood there and what is joined at all channels.
-- Assumes nothing.
use mathlib.Core.Path.{◌≡◌}
use mathlib.Core.Logic.{◌↔◌, ◌⊎◌}
use Prim.Native.Nat.{ℕ}
use lib.ListN.{length}
use Rattle.sets.specs.Set.{Has}
use Rattle.sets.specs.Rows.{HasAt, Over}
use Rattle.sets.proofs.rows.join_each.Given as goal

abbrev pub invariant-loop-c : goal.invariant-loop-c
invariant-loop-c g l = record {
  row_len : length l.row ≡ length l.initial.row;
  whole : (sets : ℕ → ℕ) → ((c set : ℕ) → goal.F-post g l.what c set → set ≡ sets c) → (i o : ℕ)
      → (HasAt l.row i o ⊎ Over l.base (Has l.c-iterator.left) (λ k. Has (sets k)) i o) ↔ (HasAt l.initial.row i o ⊎ Over l.base (Has l.channels) (λ k. Has (sets k)) i o);
}
