-- Document 01, 'Refusal numbers', and document 02's order 1: the rule of each frame over its bytes: the head (5, 6), a free name (7, 8), an offer
-- (7, 8, 16), a node (7, 9).
-- Assumes nothing.
use Rattle.std.specs.Prelude.{ℕ, Bool, true, false, cond, not, ◌||◌, List, Option, Some, None, Ok, Err, leb, ltb, eqb}
use Rattle.text.specs.Text.{byte}
use Rattle.lines.specs.declared.Marker.{Marker}
use Rattle.lines.specs.declared.Head.{Head}
use Rattle.lines.specs.declared.FreeName.{FreeName}
use Rattle.lines.specs.declared.Offer.{Offer}
use Rattle.lines.specs.declared.frames.Kind.{Kind}
use Rattle.lines.specs.declared.frames.Kind.TheVariants as kind
use Rattle.lines.specs.declared.frames.Frame.{Frame}
use Rattle.lines.specs.declared.frames.Section.TheVariants.{OfferLines}
use Rattle.lines.specs.declared.reasons.Reason.TheVariants.{NotAllowed, OtherEdition, OutsideLimits, TooHigh, NotAscending, NoMeaning, EmptyOffer}
use Rattle.lines.specs.declared.Node.{Node}
use Rattle.lines.specs.declared.Node.TheVariants.{Nil, Silent, Send, Receive, Sum, Parallel, Restriction, Match, Replication, Bracket}
use Rattle.sets.specs.Set.{Set, is_none, is_narrow, set_of_bytes}
use Rattle.limits.specs.Limits.{most_channels, most_binders, highest_level, highest_name, most_names}
use Rattle.lines.specs.Frames.{Judged, is_section}
use Rattle.lines.specs.Scope.{Scope}

-- ---- the head

abbrev pub edition : ℕ
edition = 0x01

-- C from 1, and C, B, k and F not over their limits
abbrev pub outside_limits : Head → Bool
outside_limits h =
    eqb h.channels 0
    || (ltb most_channels h.channels
    || (ltb most_binders h.binders
    || (ltb highest_level h.top
    || ltb most_names h.names)))

abbrev pub head_rule : ℕ → Head → Judged Head
head_rule said h = cond (eqb said edition) (cond (outside_limits h) (Err OutsideLimits) (Ok h)) (Err OtherEdition)

-- ---- a free name

-- `least` is the smallest name that may stand here: one more than the name before
abbrev pub name_rule : Head → ℕ → ℕ → ℕ → Judged FreeName
name_rule h least name channel =
    cond (ltb highest_name name || leb h.channels channel) (Err TooHigh)
    (cond (ltb name least) (Err NotAscending)
    (Ok (record { name = name; channel = channel })))

-- ---- an offer

-- `least` is the smallest channel that may stand here: one more than the channel before
abbrev pub offer_rule : Head → ℕ → ℕ → Set → Judged (Option Offer)
offer_rule h least channel set =
    cond (leb h.channels channel || not (is_narrow h.channels set)) (Err TooHigh)
    (cond (ltb channel least) (Err NotAscending)
    (cond (is_none set) (Err EmptyOffer)
    (Ok (Some (record { channel = channel; set = set })))))

-- ---- a node

-- a name's marker, or 9
abbrev pub meant : {A : Type 0} → Option Marker → (Marker → Judged A) → Judged A
meant None go_on = Err NoMeaning
meant (Some marker) go_on = go_on marker

-- two names are used, as in a send or a match, and something is made of their markers
abbrev pub pair_rule : {A : Type 0} → (Marker → Marker → A) → Scope → ℕ → ℕ → Judged A
pair_rule node scope x y =
    cond (ltb highest_name x || ltb highest_name y) (Err TooHigh)
    (meant (scope x) λ m. meant (scope y) λ n. Ok (node m n))

-- x is used, and looked up outside; y is bound in the branch
abbrev pub receive_rule : Head → Scope → ℕ → ℕ → ℕ → Judged Node
receive_rule h scope x y binder =
    cond (ltb highest_name x || (ltb highest_name y || leb h.binders binder)) (Err TooHigh)
    (meant (scope x) λ m. Ok (Receive m y binder))

abbrev pub restriction_rule : Head → ℕ → ℕ → Judged Node
restriction_rule h x channel =
    cond (ltb highest_name x || leb h.channels channel) (Err TooHigh) (Ok (Restriction x channel))

abbrev pub bracket_rule : Head → ℕ → Judged Node
bracket_rule h level = cond (ltb h.top level) (Err TooHigh) (Ok (Bracket level))

-- ---- the rules over the bytes of their frames

-- C, B, k and F
abbrev pub head_of : List ℕ → Head
head_of frame = record { channels = byte 2 frame; binders = byte 3 frame; top = byte 4 frame; names = byte 5 frame }

abbrev pub head_in : List ℕ → Judged Head
head_in frame = head_rule (byte 1 frame) (head_of frame)

abbrev pub name_in : Head → ℕ → List ℕ → Judged FreeName
name_in h least frame = name_rule h least (byte 1 frame) (byte 2 frame)

-- an offer, where the frame is one; of a later section it says that the offers are over
abbrev pub offer_by : Bool → Head → ℕ → List ℕ → Judged (Option Offer)
offer_by true h least frame =
    offer_rule h least (byte 1 frame) (set_of_bytes (byte 2 frame) (byte 3 frame) (byte 4 frame) (byte 5 frame))
offer_by false h least frame = Ok None

abbrev pub offer_in : Head → ℕ → Frame → List ℕ → Judged (Option Offer)
offer_in h least row frame = offer_by (is_section row.section OfferLines) h least frame

-- a node by its kind; a frame of none doesn't stand in the tree
abbrev pub node_by : Option Kind → Head → Scope → List ℕ → Judged Node
node_by None h scope frame = Err NotAllowed
node_by (Some kind.Nil) h scope frame = Ok Nil
node_by (Some kind.Silent) h scope frame = Ok Silent
node_by (Some kind.Send) h scope frame = pair_rule Send scope (byte 1 frame) (byte 2 frame)
node_by (Some kind.Receive) h scope frame = receive_rule h scope (byte 1 frame) (byte 2 frame) (byte 3 frame)
node_by (Some kind.Sum) h scope frame = Ok Sum
node_by (Some kind.Parallel) h scope frame = Ok Parallel
node_by (Some kind.Restriction) h scope frame = restriction_rule h (byte 1 frame) (byte 2 frame)
node_by (Some kind.Match) h scope frame = pair_rule Match scope (byte 1 frame) (byte 2 frame)
node_by (Some kind.Replication) h scope frame = Ok Replication
node_by (Some kind.Bracket) h scope frame = bracket_rule h (byte 1 frame)

abbrev pub node_in : Head → Scope → Frame → List ℕ → Judged Node
node_in h scope row frame = node_by row.kind h scope frame
