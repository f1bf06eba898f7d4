-- The walk over the members of a set.
-- Assumes nothing.
use Rattle.std.specs.Prelude.{ℕ, ◌<◌, Option, MatchOption}
use Rattle.limits.specs.Limits.{most_channels}
use Rattle.sets.specs.Set.{Set, Empty, LeastMember, Without}

-- a step of the walk, where s is left of the set, gives the least member and leaves the others, t, or gives nothing where there is none
abbrev pub TakesLeast : Set → Option ℕ → Set → Type 0
TakesLeast s r t = MatchOption r (Empty s) (λ c. (c < most_channels) × LeastMember s c × Without s c t)
