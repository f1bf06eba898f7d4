-- Document 01, 'Plan text' and 'Refusal numbers', and document 02's orders 1 and 2: the numbers of what a line is refused for, the sections of a text, the
-- table of frames, and the frame on a line (12, 2, 3, 4).
-- Assumes nothing.
use Rattle.std.specs.Prelude.{ℕ, ◌+◌, Bool, cond, ◌&&◌, ◌||◌, List, [], ◌∷◌, Option, Some, None, Result, Ok, Err, length, leb, ltb, eqb}
use Rattle.lines.specs.declared.reasons.Reason.{Reason}
use Rattle.lines.specs.declared.reasons.Reason.TheVariants.{WrongLength, FaultyLine, NotAllowed, WrongSize, OtherEdition, OutsideLimits, TooHigh, NotAscending, NoMeaning, TooManyNodes, TooDeep, TextEnds, TextGoesOn, EmptyOffer, IllFormedLabel, RepeatedLabel}
use Rattle.lines.specs.declared.frames.Kind.{Kind}
use Rattle.lines.specs.declared.frames.Kind.TheVariants.{Nil, Silent, Send, Receive, Sum, Parallel, Restriction, Match, Replication, Bracket}
use Rattle.lines.specs.declared.frames.Section.{Section}
use Rattle.lines.specs.declared.frames.Section.TheVariants.{FirstLine, FreeNames, OfferLines, LabelLines, TreeLines}
use Rattle.lines.specs.declared.frames.Frame.{Frame}
use Rattle.lines.specs.declared.frames.Span.{Span}
use Rattle.limits.specs.Limits.{longest_label}
use Rattle.text.specs.Text.{Line, is_faulty, bytes_of, byte}
use Rattle.text.specs.Positions.{first_of}

-- ---- the refusals of reading

-- the documents' number of each
abbrev pub number_of : Reason → ℕ
number_of WrongLength = 1
number_of FaultyLine = 2
number_of NotAllowed = 3
number_of WrongSize = 4
number_of OtherEdition = 5
number_of OutsideLimits = 6
number_of TooHigh = 7
number_of NotAscending = 8
number_of NoMeaning = 9
number_of TooManyNodes = 10
number_of TooDeep = 11
number_of TextEnds = 12
number_of TextGoesOn = 13
number_of EmptyOffer = 16
number_of IllFormedLabel = 17
number_of RepeatedLabel = 18

-- what is judged of one line: what the line gives, or why it is refused
abbrev pub Judged : Type 0 → Type 0
Judged A = Result A Reason

-- judged on, where nothing is wrong yet
abbrev pub and_on : {A B : Type 0} → Judged A → (A → Judged B) → Judged B
and_on (Err reason) go_on = Err reason
and_on (Ok a) go_on = go_on a

-- ---- the sections

-- the place of a section among all
abbrev pub rank : Section → ℕ
rank FirstLine = 1
rank FreeNames = 2
rank OfferLines = 3
rank LabelLines = 4
rank TreeLines = 5

-- 'allowed at this point' are the sections from the one that reading stands in to the last that may come now: that one alone
abbrev pub only : Section → Span
only section = record { from = section; to = section }

-- or any up to the tree, where it may be over
abbrev pub to_tree : Section → Span
to_tree section = record { from = section; to = TreeLines }

-- a section is not allowed: it comes before them, or behind
abbrev pub outside : Span → Section → Bool
outside span section = ltb (rank section) (rank span.from) || ltb (rank span.to) (rank section)

-- two sections are one
abbrev pub is_section : Section → Section → Bool
is_section a b = eqb (rank a) (rank b)

-- ---- the table

-- a row of the table: the first byte, where the frame stands, of which kind of node it is, if of any, and how many bytes it has, at least and at most
pub record Row : Type 0 where
  pub first : ℕ
  pub frame : Frame

abbrev between : ℕ → Section → Option Kind → ℕ → ℕ → Row
between first section kind least most =
    record { first = first; frame = record { section = section; kind = kind; least = least; most = most } }

abbrev row : ℕ → Section → ℕ → Row
row first section size = between first section None size size

abbrev node : ℕ → Kind → ℕ → Row
node first kind size = between first TreeLines (Some kind) size size

unfoldable pub table : List Row
table =
    row 0x01 FirstLine 6
    ∷ row 0x02 FreeNames 3
    ∷ row 0x03 OfferLines 6
    ∷ between 0x04 LabelLines None 4 (3 + longest_label)
    ∷ node 0x10 Nil 1
    ∷ node 0x11 Silent 1
    ∷ node 0x12 Send 3
    ∷ node 0x13 Receive 4
    ∷ node 0x14 Sum 1
    ∷ node 0x15 Parallel 1
    ∷ node 0x16 Restriction 3
    ∷ node 0x17 Match 3
    ∷ node 0x18 Replication 1
    ∷ node 0x19 Bracket 2
    ∷ []

-- the frame of the first row with that first byte; none, where no frame begins so
unfoldable pub frame_from : List Row → ℕ → Option Frame
frame_from [] first = None
frame_from (r ∷ rs) first = cond (eqb first r.first) (Some r.frame) (frame_from rs first)

abbrev pub frame_of : ℕ → Option Frame
frame_of = frame_from table

-- ---- the frame on a line

-- a frame of the table at this point, on a line of so many bytes: 3 for its section, or where it is none, and 4 for its length
abbrev pub row_in : Span → ℕ → Option Frame → Judged Frame
row_in span size None = Err NotAllowed
row_in span size (Some frame) =
    cond (outside span frame.section) (Err NotAllowed)
    (cond (leb frame.least size && leb size frame.most) (Ok frame)
    (Err WrongSize))

-- the frame whose bytes these are, by the row of its first byte
abbrev pub frame_for : Span → List ℕ → Judged Frame
frame_for span bytes = row_in span (length bytes) (frame_of (byte 0 bytes))

-- the frame on the next line: 12 where no line is left, 2 where it is faulty
abbrev pub frame_in : Span → List Line → Judged Frame
frame_in span [] = Err TextEnds
frame_in span (l ∷ ls) = cond (is_faulty l) (Err FaultyLine) (frame_for span (bytes_of l.characters))

-- the bytes of the next line, none where no line is left
abbrev pub next_bytes : List Line → List ℕ
next_bytes left = bytes_of (first_of left).characters
