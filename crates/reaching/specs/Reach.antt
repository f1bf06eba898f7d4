-- What each level may receive: a handle on any channel, and the smallest channel on which it may. # is a level like the others here.
-- Assumes nothing.
use Rattle.std.specs.Prelude.{ℕ, ◌<◌, ◌≤◌, ◌≡◌, List, ◌↔◌, length, get_or}
use Rattle.limits.specs.Limits.{most_channels, levels, place_of, level_sets}
use Rattle.sets.specs.Rows.{SetRow, HasAt}
use Rattle.reading.specs.Plan.{Outcome, Plan}
use Rattle.solving.specs.declared.Solved.{Solved}
use Rattle.solving.specs.Solutions.{in_set, Sets, members_in}
use Rattle.solving.specs.Solve.{Solves}
use Rattle.reaching.specs.declared.Received.{Received}

-- handle o is in some in set of level l
abbrev pub ReceivedAt : Sets → ℕ → ℕ → Type 0
ReceivedAt s l o = (c : ℕ) × s (in_set l c o)

-- c is the smallest channel whose in set has it
pub record FirstChannel (s : Sets) (l o c : ℕ) : Type 0 where
  pub received : s (in_set l c o)
  pub first : (d : ℕ) → s (in_set l d o) → c ≤ d

-- the channel that stands for a level and a handle
abbrev pub channel_at : List ℕ → ℕ → ℕ → ℕ
channel_at channels l o = get_or channels (place_of l o) 0

-- a level's handles are those in its in sets; each has its smallest channel, and what is not received has 0
pub record ReachOf (s : Sets) (handles : SetRow) (channels : List ℕ) : Type 0 where
  pub among : (l : ℕ) → l < levels → (o : ℕ) → HasAt handles l o ↔ ReceivedAt s l o
  pub channel : (l o : ℕ) → l < levels → o < most_channels → ReceivedAt s l o → FirstChannel s l o (channel_at channels l o)
  pub none : (l o : ℕ) → l < levels → o < most_channels → (ReceivedAt s l o → ⊥) → channel_at channels l o ≡ 0
  pub levels_long : length handles ≡ levels
  pub places_long : length channels ≡ level_sets

-- what is answered, by what the text reads as: of the sets that solving answers, which are empty under a refusal
pub record Reaches (o : Outcome Plan) (allowance : ℕ) (r : Received) : Type 0 where
  pub solved : Solved
  pub of_text : Solves o allowance solved
  pub refusal : r.refusal ≡ solved.refusal
  pub reach : ReachOf (members_in solved.solution) r.handles r.channels
