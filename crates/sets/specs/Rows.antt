-- Rows of sets: what stands at a place, what is joined to the sets of a row, and where. A row is a list, and past its end stands the empty set.
-- P names channels, Q names members at a channel, W names members at a place of a row. Nothing here names a width.
-- Assumes nothing.
use Rattle.std.specs.Prelude.{List, ◌≡◌, ◌↔◌, ◌⊎◌, ℕ, ◌+◌, ◌-◌, ◌<◌, ◌≤◌, length, get_or, replicate}
use Rattle.sets.specs.Set.{Set, none, Has}

abbrev pub SetRow : Type 0
SetRow = List Set

-- a row of so many empty sets
abbrev pub empty_row : ℕ → SetRow
empty_row places = replicate places none

-- the set at place i of a row
abbrev pub set_at : SetRow → ℕ → Set
set_at row i = get_or row i none

-- o is in the set at place i of a row
abbrev pub HasAt : SetRow → ℕ → ℕ → Type 0
HasAt row i o = Has (set_at row i) o

-- r is row with each member o that W names at a place i joined to the set that stands there, and nothing else
pub record Joins (row r : SetRow) (W : ℕ → ℕ → Type 0) : Type 0 where
  pub joins : (i o : ℕ) → HasAt r i o ↔ (HasAt row i o ⊎ W i o)

-- i is the place, and o one of the set
abbrev pub Only : ℕ → Set → ℕ → ℕ → Type 0
Only place set i o = (i ≡ place) × Has set o

-- i is the place, from base on, of a channel that P names, and o is one of those that Q names at that channel
abbrev pub Over : ℕ → (ℕ → Type 0) → (ℕ → ℕ → Type 0) → ℕ → ℕ → Type 0
Over base P Q i o = (base ≤ i) × P (i - base) × Q (i - base) o

-- o is a member of what stands at channel c from start on
abbrev pub From : SetRow → ℕ → ℕ → ℕ → Type 0
From row start c o = HasAt row (start + c) o

-- o is a member of what stands, from start on, at some channel that P names
abbrev pub Together : SetRow → ℕ → (ℕ → Type 0) → ℕ → Type 0
Together row start P o = (c : ℕ) × P c × From row start c o

-- r is as long as the row, and holds what stands in `from` from start on
pub record Copied (row from : SetRow) (start : ℕ) (r : SetRow) : Type 0 where
  pub sized : length r ≡ length row
  pub copies : (i : ℕ) → i < length row → set_at r i ≡ set_at from (start + i)
