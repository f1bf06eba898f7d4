-- What is read off a row of in sets: the handles of each level, and the channel for each level and handle.
-- Assumes nothing.
use Rattle.std.specs.Prelude.{ℕ, ◌+◌, ◌*◌, ◌/◌, ◌%◌, ◌<◌, ◌≤◌, ◌≡◌, List, length, get_or, Option, position, slice_range}
use Rattle.std.specs.Option.{unwrap_or, option_map_or}
use Rattle.limits.specs.Limits.{most_channels, levels, place_of, level_sets}
use Rattle.sets.specs.Set.{Members, is_member}
use Rattle.sets.specs.Rows.{SetRow, set_at, HasAt}

-- o stands at channel c of level l
abbrev pub On : SetRow → ℕ → ℕ → ℕ → Type 0
On ins l o c = (c < most_channels) × HasAt ins (place_of l c) o

pub record HandlesIn (ins : SetRow) (handles : SetRow) : Type 0 where
  pub members : (l : ℕ) → l < levels → Members (set_at handles l) (λ o. (c : ℕ) × On ins l o c)
  pub long : length handles ≡ levels

-- r is the smallest channel at which o stands, 0 where it stands at none
pub record FirstOn (ins : SetRow) (l o r : ℕ) : Type 0 where
  pub there : (c : ℕ) → On ins l o c → On ins l o r × (r ≤ c)
  pub nowhere : ((c : ℕ) → On ins l o c → ⊥) → r ≡ 0

-- the smallest channel at which o stands, if it stands at one
abbrev pub first_on : SetRow → ℕ → ℕ → Option ℕ
first_on ins l o = position (λ s. is_member s o) (slice_range ins (l * most_channels) (l * most_channels + most_channels))

-- the first of the channels from c on, as many as are left, at which o stands, 0 where there is none
abbrev pub first_from : SetRow → ℕ → ℕ → ℕ → ℕ → ℕ
first_from ins l o left c =
    option_map_or (λ i. c + i) (position (λ s. is_member s o) (slice_range ins (place_of l c) (place_of l c + left))) 0

-- what is named at place i: that channel for its level and handle, 0 where there is none
abbrev pub named_at : SetRow → ℕ → ℕ
named_at ins i = unwrap_or (first_on ins (i / most_channels) (i % most_channels)) 0

pub record ChannelsIn (ins : SetRow) (channels : List ℕ) : Type 0 where
  pub named : (i : ℕ) → i < level_sets → get_or channels i 0 ≡ named_at ins i
  pub long : length channels ≡ level_sets
