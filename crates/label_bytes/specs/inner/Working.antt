-- What a first byte says of its character, and what bytes begin with, as the code holds them.
-- Assumes nothing.
use Rattle.std.specs.Prelude.{ℕ, ◌-◌, ◌≤◌, ◌<◌, Bool, true, false, ◌≡◌, List, [], ◌∷◌, Option, None, Some, length, take, replicate}
use Rattle.std.specs.List.{list_all}
use Rattle.std.specs.declared.ops.RangeInclusive.{RangeInclusive}
use Rattle.std.specs.Range.{range_inclusive_start, range_inclusive_end, range_inclusive_exhausted}
use Rattle.label_bytes.specs.declared.Lead.{Lead}
use Rattle.label_bytes.specs.declared.Lead.TheVariants.{One, More}
use Rattle.label_bytes.specs.Characters.{Range, range, tail, is_in, fits}
use Rattle.label_bytes.specs.Label.{is_shown, Begins, LongestBeginning}

abbrev pub are_tails : List ℕ → Bool
are_tails = list_all (is_in tail)

abbrev pub range_of : RangeInclusive ℕ → Range
range_of r = range (range_inclusive_start r) (range_inclusive_end r)

-- the ranges behind the first byte of a character
abbrev pub behind : Lead → List Range
behind One = []
behind (More size second) = range_of second ∷ replicate (size - 2) tail

-- where there are more bytes there is a second, and its range is as it was made
abbrev pub HasSecond : Lead → Type 0
HasSecond One = Unit {0}
HasSecond (More size second) = (2 ≤ size) × (range_inclusive_exhausted second ≡ false)

-- what a first byte says: with others behind it, it is a character of a label exactly where they fit their ranges; none, where it never is
abbrev pub Leads : ℕ → Option Lead → Type 0
Leads first None = (rest : List ℕ) → is_shown (first ∷ rest) ≡ false
Leads first (Some lead) = HasSecond lead × ((rest : List ℕ) → is_shown (first ∷ rest) ≡ fits (behind lead) rest)

-- a character of a label stands in front, of so many bytes
pub record InFront (size : ℕ) (bytes : List ℕ) : Type 0 where
  pub some : 0 < size
  pub within : size ≤ length bytes
  pub letter : is_shown (take size bytes) ≡ true

-- the size of the character of a label that bytes begin with; none, where they begin with no such character
abbrev pub Begun : List ℕ → Option ℕ → Type 0
Begun bytes None = (character : List ℕ) → Begins character bytes → is_shown character ≡ false
Begun bytes (Some size) = InFront size bytes

-- the end of the longest whole-character beginning of at most so many bytes
pub record WholeTo (most : ℕ) (bytes : List ℕ) (end : ℕ) : Type 0 where
  pub within : end ≤ length bytes
  pub longest : LongestBeginning most bytes (take end bytes)
