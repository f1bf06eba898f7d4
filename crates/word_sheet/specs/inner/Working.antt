-- For the contracts of the code's inner functions alone: labels that have bytes, labels in an array, numbers of two digits, and a name that is put behind
-- other characters.
-- Assumes nothing.
use Rattle.std.specs.Prelude.{ℕ, ◌+◌, ◌<◌, ◌≤◌, ◌≡◌, List, ◌++◌, length, take, get_or, All}
use Rattle.limits.specs.Limits.{most_labels, longest_short}
use Rattle.lines.specs.declared.label.Label.{Label}
use Rattle.putting.specs.Put.{Put}
use Rattle.judging.specs.declared.Breach.{Breach}
use Rattle.judging.specs.declared.Verdict.{Verdict}
use Rattle.judging.specs.declared.Verdict.TheVariants.{Unjudged, Yes, No}

-- ---- labels

-- a label has bytes
pub record HasBytes (label : Label) : Type 0 where
  pub some : 1 ≤ label.size

-- the bytes of a label stand in its array
abbrev pub Fits : Label → Type 0
Fits label = label.size ≤ length label.bytes

-- an array of labels, of which the first `count` are used: each fits, and has bytes
pub record Listed (labels : List Label) (count : ℕ) : Type 0 where
  pub sized : length labels ≡ most_labels
  pub counted : count ≤ most_labels
  pub fit : (i : ℕ) (d : Label) → i < count → Fits (get_or labels i d)
  pub have_bytes : All HasBytes (take count labels)

-- ---- numbers

-- a number of at most two digits
abbrev pub TwoDigits : ℕ → Type 0
TwoDigits number = number < 100

pub record BreachTwoDigits (b : Breach) : Type 0 where
  pub higher : TwoDigits b.higher
  pub lower : TwoDigits b.lower
  pub channel : TwoDigits b.channel
  pub handle : TwoDigits b.handle

abbrev pub VerdictTwoDigits : Verdict → Type 0
VerdictTwoDigits Unjudged = Unit {0}
VerdictTwoDigits Yes = Unit {0}
VerdictTwoDigits (No b) = BreachTwoDigits b

-- ---- names

-- the word of an unlabelled thing has at most as many characters as `channel ` has
abbrev pub longest_word : ℕ
longest_word = 8

-- there is room for characters, and behind them for any name
pub record NameRoom (buffer : List ℕ) (at : ℕ) (front : List ℕ) : Type 0 where
  pub fits : at + length front + longest_short ≤ length buffer

-- characters were put, and behind them a name
pub record PutName (before : List ℕ) (at : ℕ) (front name after : List ℕ) (next : ℕ) : Type 0 where
  pub put : Put before at (front ++ name) after next
  pub most : length name ≤ longest_short
