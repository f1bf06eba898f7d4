-- What is promised of every line: a refusal's number is one of reading's; what is found stands on a line that is whole, keeps the limits, and uses
-- only markers that are given.
-- Assumes nothing.
use Rattle.std.specs.Prelude.{ℕ, ◌≤◌, ◌<◌, ◌≡◌, ◌⊎◌, ◌≢◌, Option, Some, None, Ok, Err, length}
use mathlib.Core.List.{List, ◌∷◌, Memᴰ}
use Rattle.lines.specs.declared.FreeName.{FreeName}
use Rattle.lines.specs.declared.Head.{Head}
use Rattle.lines.specs.declared.label.Label.{Label}
use Rattle.lines.specs.declared.Marker.{Marker}
use Rattle.lines.specs.declared.Marker.TheVariants.{Channel, Binder}
use Rattle.lines.specs.declared.Node.{Node}
use Rattle.lines.specs.declared.Offer.{Offer}
use Rattle.lines.specs.declared.Node.TheVariants.{Nil, Silent, Send, Receive, Sum, Parallel, Restriction, Match, Replication, Bracket}
use Rattle.sets.specs.Set.{Narrow, Empty}
use Rattle.limits.specs.Limits.{most_channels, most_binders, highest_level, highest_name, most_names, most_nodes, outermost, longest_label}
use Rattle.label_bytes.specs.Label.{IsLabel}
use Rattle.text.specs.Text.{Line}
use Rattle.text.specs.Positions.{end_at}
use Rattle.lines.specs.Frames.{number_of, Judged}
use Rattle.lines.specs.Labels.{channel_kind, binder_kind, level_kind, place_among, bytes_of_label}
use Rattle.lines.specs.Scope.{Scope}

-- reading's refusals: 1 to 18 but for the solver's, 14, and the sheet's, 15
abbrev pub OfReading : ℕ → Type 0
OfReading n = (1 ≤ n) × (n ≤ 18) × (n ≢ 14) × (n ≢ 15)

-- a refusal of reading, or something of which P holds
abbrev pub Gives : {A : Type 0} → (A → Type 0) → Judged A → Type 0
Gives P (Err reason) = OfReading (number_of reason)
Gives P (Ok a) = P a

-- and it stands on a line, the first of those that are left
abbrev pub OnLine : {A : Type 0} → List Line → (A → Type 0) → A → Type 0
OnLine left P a = P a × (0 < length left)

-- the line at a position is there, and so is its line feed
pub record LineWhole (s : List ℕ) (at : ℕ) : Type 0 where
  pub here : at < length s
  pub ended : end_at s at < length s

-- and there is room and depth for a node
pub record NodeFits (s : List ℕ) (at depth count : ℕ) : Type 0 where
  pub whole : LineWhole s at
  pub room : count < most_nodes
  pub deep : depth ≡ 0 → ⊥

-- ---- the limits

pub record HeadWithin (h : Head) : Type 0 where
  pub some : 1 ≤ h.channels
  pub channels : h.channels ≤ most_channels
  pub binders : h.binders ≤ most_binders
  pub top : h.top ≤ highest_level
  pub names : h.names ≤ most_names

-- a free name from `least` to 63, with a channel below C
abbrev pub NameWithin : Head → ℕ → FreeName → Type 0
NameWithin h least f = (least ≤ f.name) × (f.name ≤ highest_name) × (f.channel < h.channels)

-- an offer on a channel from `least` on and below C, of handles below C, and of one at least
pub record OfferWithin (h : Head) (least : ℕ) (offer : Offer) : Type 0 where
  pub ascending : least ≤ offer.channel
  pub channel : offer.channel < h.channels
  pub handles : Narrow h.channels offer.set
  pub some : Empty offer.set → ⊥

-- a channel below C, a binder below B, a level 0 to k or 07
abbrev pub IsThing : Head → ℕ → ℕ → Type 0
IsThing h kind number =
    ((kind ≡ channel_kind) × (number < h.channels))
    ⊎ (((kind ≡ binder_kind) × (number < h.binders))
    ⊎ ((kind ≡ level_kind) × ((number ≤ h.top) ⊎ (number ≡ outermost))))

-- a label of a thing whose place is `least` or more, of 1 to 60 bytes that are well formed, in an array of 60
pub record LabelWithin (h : Head) (least : ℕ) (label : Label) : Type 0 where
  pub ascending : least ≤ place_among label.kind label.number
  pub thing : IsThing h label.kind label.number
  pub some : 1 ≤ label.size
  pub most : label.size ≤ longest_label
  pub array : length label.bytes ≡ longest_label
  pub well_formed : IsLabel (bytes_of_label label)

-- nothing is asked where a section is over
abbrev pub NextWithin : {A : Type 0} → (A → Type 0) → Option A → Type 0
NextWithin P (Some a) = P a
NextWithin P None = Unit {0}

-- a channel below C, a binder below B
abbrev pub MarkerWithin : Head → Marker → Type 0
MarkerWithin h (Channel c) = c < h.channels
MarkerWithin h (Binder b) = b < h.binders

-- names at most 63, channels below C, binders below B, levels at most k
abbrev pub NodeWithin : Head → Node → Type 0
NodeWithin h Nil = Unit {0}
NodeWithin h Silent = Unit {0}
NodeWithin h (Send x y) = MarkerWithin h x × MarkerWithin h y
NodeWithin h (Receive x y b) = MarkerWithin h x × (y ≤ highest_name) × (b < h.binders)
NodeWithin h Sum = Unit {0}
NodeWithin h Parallel = Unit {0}
NodeWithin h (Restriction x c) = (x ≤ highest_name) × (c < h.channels)
NodeWithin h (Match x y) = MarkerWithin h x × MarkerWithin h y
NodeWithin h Replication = Unit {0}
NodeWithin h (Bracket l) = l ≤ h.top

-- ---- the givers of markers

-- the marker is one of those given
abbrev pub IsGiven : List Marker → Marker → Type 0
IsGiven given m = Memᴰ m given

-- the markers of a node are given
abbrev pub Uses : List Marker → Node → Type 0
Uses given Nil = Unit {0}
Uses given Silent = Unit {0}
Uses given (Send x y) = IsGiven given x × IsGiven given y
Uses given (Receive x y b) = IsGiven given x
Uses given Sum = Unit {0}
Uses given Parallel = Unit {0}
Uses given (Restriction x c) = Unit {0}
Uses given (Match x y) = IsGiven given x × IsGiven given y
Uses given Replication = Unit {0}
Uses given (Bracket l) = Unit {0}

-- the markers given in a node's branches
abbrev pub enclosed : Node → List Marker → List Marker
enclosed Nil given = given
enclosed Silent given = given
enclosed (Send x y) given = given
enclosed (Receive x y b) given = Binder b ∷ given
enclosed Sum given = given
enclosed Parallel given = given
enclosed (Restriction x c) given = Channel c ∷ given
enclosed (Match x y) given = given
enclosed Replication given = given
enclosed (Bracket l) given = given

-- every meaning is a marker within the limits, and given
abbrev pub ScopeWithin : Head → List Marker → Scope → Type 0
ScopeWithin h given scope = (name : ℕ) (m : Marker) → scope name ≡ Some m → MarkerWithin h m × IsGiven given m

-- ---- a node on the next line

-- it is within the limits, and its markers are given
abbrev pub NodeGood : Head → List Marker → Node → Type 0
NodeGood h given n = NodeWithin h n × Uses given n

-- and there is room for it behind so many
abbrev pub NodeNext : Head → List Marker → ℕ → Node → Type 0
NodeNext h given count n = NodeGood h given n × (count < most_nodes)
