-- Document 02, order 3: the place in its line of the byte that a refusal speaks of, from 1, and 0 where it speaks of none. It is said beside the
-- refusal's number, of the line as it stands; what decides the number knows nothing of it.
-- Assumes nothing.
use Rattle.std.specs.Prelude.{ℕ, ◌+◌, Bool, false, cond, not, ◌||◌, List, [], ◌∷◌, Option, Some, None, position, leb, ltb, eqb}
use Rattle.std.specs.Option.{is_none, option_map_or}
use Rattle.limits.specs.Limits.{most_channels, most_binders, highest_level, highest_name, most_names}
use Rattle.sets.specs.Set.{Set, is_narrow, set_of_bytes}
use Rattle.text.specs.Text.{Line, bytes_of, byte, bad_pair}
use Rattle.text.specs.Positions.{first_of}
use Rattle.lines.specs.declared.Head.{Head}
use Rattle.lines.specs.declared.frames.Frame.{Frame}
use Rattle.lines.specs.declared.frames.Kind.{Kind}
use Rattle.lines.specs.declared.frames.Kind.TheVariants.{Send, Receive, Restriction, Match, Bracket}
use Rattle.lines.specs.declared.frames.Section.{Section}
use Rattle.lines.specs.declared.frames.Section.TheVariants.{FreeNames, OfferLines, LabelLines}
use Rattle.lines.specs.Frames.{frame_of}
use Rattle.lines.specs.Labels.{level_kind, is_thing}
use Rattle.lines.specs.Rules.{head_of}
use Rattle.lines.specs.Scope.{Scope}

-- ---- the first faulty byte

-- the place of the first faulty byte, by the tests of a frame's bytes behind its first; 0 where none is faulty
abbrev pub first_fault : List Bool → ℕ
first_fault faults = option_map_or (λ i. i + 2) (position (λ is_faulty. is_faulty) faults) 0

-- ---- 6: the head's C, B, k and F, behind the edition

abbrev pub limit_faults : Head → List Bool
limit_faults h =
    false
    ∷ (eqb h.channels 0 || ltb most_channels h.channels)
    ∷ ltb most_binders h.binders
    ∷ ltb highest_level h.top
    ∷ ltb most_names h.names
    ∷ []

-- ---- 7: a name over 63, a channel or an offered handle not below C, a binder not below B, a level over k; a label's kind or number

-- a free name or a restriction: its name and its channel
abbrev pub naming_faults : Head → ℕ → ℕ → List Bool
naming_faults h name channel = ltb highest_name name ∷ leb h.channels channel ∷ []

-- a handle of the set is not below C
abbrev pub is_wide : Head → Set → Bool
is_wide h set = not (is_narrow h.channels set)

-- an offer: its channel, and the four bytes of its set, each by the handles that it holds itself
abbrev pub offer_faults : Head → ℕ → ℕ → ℕ → ℕ → ℕ → List Bool
offer_faults h channel first second third fourth =
    leb h.channels channel
    ∷ is_wide h (set_of_bytes first 0 0 0)
    ∷ is_wide h (set_of_bytes 0 second 0 0)
    ∷ is_wide h (set_of_bytes 0 0 third 0)
    ∷ is_wide h (set_of_bytes 0 0 0 fourth)
    ∷ []

-- a label: its kind, and its number, which is that of a thing of this kind
abbrev pub label_faults : Head → ℕ → ℕ → List Bool
label_faults h kind number = ltb level_kind kind ∷ not (is_thing h kind number) ∷ []

-- a send or a match: its two names
abbrev pub pair_faults : ℕ → ℕ → List Bool
pair_faults x y = ltb highest_name x ∷ ltb highest_name y ∷ []

-- a receive: its two names and its binder
abbrev pub receive_faults : Head → ℕ → ℕ → ℕ → List Bool
receive_faults h x y binder = ltb highest_name x ∷ ltb highest_name y ∷ leb h.binders binder ∷ []

-- a bracket: its level
abbrev pub bracket_faults : Head → ℕ → List Bool
bracket_faults h level = ltb h.top level ∷ []

-- a frame that is no node, by its section
abbrev pub section_faults : Head → Section → List ℕ → List Bool
section_faults h FreeNames frame = naming_faults h (byte 1 frame) (byte 2 frame)
section_faults h OfferLines frame = offer_faults h (byte 1 frame) (byte 2 frame) (byte 3 frame) (byte 4 frame) (byte 5 frame)
section_faults h LabelLines frame = label_faults h (byte 1 frame) (byte 2 frame)
section_faults h section frame = []

-- a node, by its kind
abbrev pub node_faults : Head → Kind → List ℕ → List Bool
node_faults h Send frame = pair_faults (byte 1 frame) (byte 2 frame)
node_faults h Receive frame = receive_faults h (byte 1 frame) (byte 2 frame) (byte 3 frame)
node_faults h Restriction frame = naming_faults h (byte 1 frame) (byte 2 frame)
node_faults h Match frame = pair_faults (byte 1 frame) (byte 2 frame)
node_faults h Bracket frame = bracket_faults h (byte 1 frame)
node_faults h kind frame = []

-- a frame by its section and its kind of node, if it is of any
abbrev pub kind_faults : Head → Section → Option Kind → List ℕ → List Bool
kind_faults h section None frame = section_faults h section frame
kind_faults h section (Some kind) frame = node_faults h kind frame

-- a frame by its row of the table, if it has any
abbrev pub frame_faults : Head → Option Frame → List ℕ → List Bool
frame_faults h None frame = []
frame_faults h (Some row) frame = kind_faults h row.section row.kind frame

-- ---- 9: a name used that has no meaning there

-- a send or a match uses both its names
abbrev pub pair_unmeant : Scope → ℕ → ℕ → List Bool
pair_unmeant scope x y = is_none (scope x) ∷ is_none (scope y) ∷ []

-- a receive uses its first
abbrev pub receive_unmeant : Scope → ℕ → List Bool
receive_unmeant scope x = is_none (scope x) ∷ []

-- a frame by its kind of node, if it is of any
abbrev pub kind_unmeant : Scope → Option Kind → List ℕ → List Bool
kind_unmeant scope (Some Send) frame = pair_unmeant scope (byte 1 frame) (byte 2 frame)
kind_unmeant scope (Some Receive) frame = receive_unmeant scope (byte 1 frame)
kind_unmeant scope (Some Match) frame = pair_unmeant scope (byte 1 frame) (byte 2 frame)
kind_unmeant scope kind frame = []

-- a frame by its row of the table, if it has any
abbrev pub frame_unmeant : Scope → Option Frame → List ℕ → List Bool
frame_unmeant scope None frame = []
frame_unmeant scope (Some row) frame = kind_unmeant scope row.kind frame

-- ---- by the refusal's number

-- 2: the pair that holds the first bad character; 3: the first byte; 5: the edition, behind it; 6, 7 and 9: the first faulty byte; any other: none
abbrev pub place_on : Head → Scope → Line → ℕ → ℕ
place_on h scope line number =
    let frame = bytes_of line.characters in
    let row = frame_of (byte 0 frame) in
    cond (eqb number 2) (bad_pair line.characters)
    (cond (eqb number 3) 1
    (cond (eqb number 5) 2
    (cond (eqb number 6) (first_fault (limit_faults (head_of frame)))
    (cond (eqb number 7) (first_fault (frame_faults h row frame))
    (cond (eqb number 9) (first_fault (frame_unmeant scope row frame))
    0)))))

-- on the first of the lines that are left
abbrev pub byte_place : Head → Scope → List Line → ℕ → ℕ
byte_place h scope left number = place_on h scope (first_of left) number
