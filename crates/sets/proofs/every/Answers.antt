-- All digits of the number are 1.
-- Assumes nothing.
use Prim.Native.Nat.{◌-◌, ◌^◌}
use lib.Dec.{lit<}
use Rattle.std.proofs.lemmas.Nat.Bits.{bit_at_ones}
use Rattle.limits.specs.Limits.{most_channels}
use Rattle.sets.proofs.Width.{below}
use Rattle.sets.proofs.every.Goals as goal

pub returns : goal.returns
returns c = record { has = λ k. (below most_channels (2 ^ most_channels - 1) k (lit< tt), bit_at_ones most_channels k) }
