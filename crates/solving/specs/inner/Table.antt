-- The table of sets that a round works on, for the code's inner contracts alone: a solution's sets in one array, the binders' first, then
-- the in sets and then the out sets, those of a level side by side.
-- Assumes nothing.
use Rattle.std.specs.Prelude.{ℕ, ◌+◌, ◌*◌, ◌<◌, ◌↔◌, ◌⊎◌}
use Rattle.limits.specs.Limits.{most_channels, most_binders, levels, level_sets}
use Rattle.sets.specs.Rows.{SetRow, HasAt, From, Together}
use Rattle.lines.specs.declared.Marker.{Marker}
use Rattle.lines.specs.declared.Marker.TheVariants.{Channel, Binder}
use Rattle.solving.specs.declared.Solution.{Solution}
use Rattle.solving.specs.Solutions.{Fact, binder_set, in_set, out_set, Sets, members_in, Sized}

-- where the in sets begin, and the out sets
abbrev pub ins_start : ℕ
ins_start = most_binders

abbrev pub outs_start : ℕ
outs_start = ins_start + level_sets

abbrev pub table_size : ℕ
table_size = outs_start + level_sets

-- where the in sets of a level begin, and its out sets
abbrev pub ins_at : ℕ → ℕ
ins_at l = ins_start + l * most_channels

abbrev pub outs_at : ℕ → ℕ
outs_at l = outs_start + l * most_channels

-- the table as a solution
abbrev pub in_table : SetRow → Sets
in_table t (binder_set b o) = (b < most_binders) × HasAt t b o
in_table t (in_set l c o) = (l < levels) × (c < most_channels) × HasAt t (ins_at l + c) o
in_table t (out_set l c o) = (l < levels) × (c < most_channels) × HasAt t (outs_at l + c) o

-- a marker's number fits the table
abbrev pub MarkerFits : Marker → Type 0
MarkerFits (Channel c) = c < most_channels
MarkerFits (Binder b) = b < most_binders

-- o is in c's out set at some level below w
abbrev pub SentOn : SetRow → ℕ → ℕ → ℕ → Type 0
SentOn t w c o = (m : ℕ) × (m < w) × From t (outs_at m) c o

-- o is in the out set of some channel that P names, at some level below w
abbrev pub Sent : SetRow → ℕ → (ℕ → Type 0) → ℕ → Type 0
Sent t w P o = (m : ℕ) × (m < w) × Together t (outs_at m) P o

-- some channel that P names has a non-empty out set at some level
abbrev pub Sounding : SetRow → (ℕ → Type 0) → Type 0
Sounding t P = (o : ℕ) × Sent t levels P o

-- r is t with just what W says included
pub record Adds (t r : SetRow) (W : Sets) : Type 0 where
  pub adds : (f : Fact) → in_table r f ↔ (in_table t f ⊎ W f)

-- s holds what t holds
pub record Unpacked (t : SetRow) (s : Solution) : Type 0 where
  pub same : (f : Fact) → members_in s f ↔ in_table t f
  pub sized : Sized s
