-- Document 01, 'Acceptable solutions', where it says what a solution is: its sets, S(x), and when one is contained in another.
-- Assumes nothing.
use Rattle.std.specs.Prelude.{ℕ, ◌<◌, ◌≤◌, ◌≡◌, ◌⊎◌, length}
use Rattle.limits.specs.Limits.{most_channels, most_binders, outermost, levels, place_of, level_sets}
use Rattle.sets.specs.Rows.{HasAt}
use Rattle.lines.specs.declared.Head.{Head}
use Rattle.lines.specs.declared.Marker.{Marker}
use Rattle.lines.specs.declared.Marker.TheVariants.{Channel, Binder}
use Rattle.solving.specs.declared.Solution.{Solution}

-- one membership: channel o is in binder b's set; in in(l, c); in out(l, c)
pub data Fact : Type 0 where
  binder_set : ℕ → ℕ → Fact
  in_set : ℕ → ℕ → ℕ → Fact
  out_set : ℕ → ℕ → ℕ → Fact

-- a solution, by what is in its sets
abbrev pub Sets : Type 1
Sets = Fact → Type 0

-- o is in S(x), the set of x's marker. A channel as a marker has the set of itself alone
abbrev pub SetOf : Sets → Marker → ℕ → Type 0
SetOf s (Channel c) o = o ≡ c
SetOf s (Binder b) o = s (binder_set b o)

-- each set of s is within the same set of t
abbrev pub Contained : Sets → Sets → Type 0
Contained s t = (f : Fact) → s f → t f

-- a level: 0 to k, and #
abbrev pub Level : Head → ℕ → Type 0
Level h l = (l ≤ h.top) ⊎ (l ≡ outermost)

-- a membership of a plan with this head: C channels, B binders and levels 0 to k, # beside them
abbrev pub InRange : Head → Fact → Type 0
InRange h (binder_set b o) = (b < h.binders) × (o < h.channels)
InRange h (in_set l c o) = Level h l × (c < h.channels) × (o < h.channels)
InRange h (out_set l c o) = Level h l × (c < h.channels) × (o < h.channels)

-- in and out sets past C or k (# apart), and binder sets past B, are empty
abbrev pub LiesWithin : Head → Sets → Type 0
LiesWithin h s = (f : Fact) → s f → InRange h f

-- the arrays as a solution: eight levels, # the last of them, and 32 channels and binders are the most there are
abbrev pub members_in : Solution → Sets
members_in s (binder_set b o) = (b < most_binders) × HasAt s.binders b o
members_in s (in_set l c o) = (l < levels) × (c < most_channels) × HasAt s.ins (place_of l c) o
members_in s (out_set l c o) = (l < levels) × (c < most_channels) × HasAt s.outs (place_of l c) o

-- the arrays are as long as their types say
pub record Sized (s : Solution) : Type 0 where
  pub binders : length s.binders ≡ most_binders
  pub ins : length s.ins ≡ level_sets
  pub outs : length s.outs ≡ level_sets
