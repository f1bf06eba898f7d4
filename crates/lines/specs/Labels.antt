-- Document 02, order 2: what may have a label, the label in a frame's bytes, and the rule of it (7, 8, 17).
-- Assumes nothing.
use Rattle.std.specs.Prelude.{ℕ, ◌+◌, Bool, true, false, cond, ◌||◌, List, Option, Some, None, Ok, Err, length, drop, take, leb, ltb, eqb}
use Rattle.limits.specs.Limits.{most_channels, most_binders, outermost, longest_label}
use Rattle.label_bytes.specs.Label.{is_label}
use Rattle.text.specs.Text.{byte}
use Rattle.lines.specs.declared.Head.{Head}
use Rattle.lines.specs.declared.label.Label.{Label}
use Rattle.lines.specs.declared.frames.Frame.{Frame}
use Rattle.lines.specs.declared.frames.Section.TheVariants.{LabelLines}
use Rattle.lines.specs.declared.reasons.Reason.TheVariants.{TooHigh, NotAscending, IllFormedLabel}
use Rattle.lines.specs.Frames.{Judged, is_section}
use Rattle.lines.specs.Values.{padded, padded_holds}

-- ---- what may have a label

-- the kinds: channel, binder, level
abbrev pub channel_kind : ℕ
channel_kind = 0x00

abbrev pub binder_kind : ℕ
binder_kind = 0x01

abbrev pub level_kind : ℕ
level_kind = 0x02

-- a channel below C, a binder below B, a level 0 to k or 07
abbrev pub is_thing : Head → ℕ → ℕ → Bool
is_thing h kind number =
    cond (eqb kind channel_kind) (ltb number h.channels)
    (cond (eqb kind binder_kind) (ltb number h.binders)
    (cond (eqb kind level_kind) (leb number h.top || eqb number outermost)
    false))

-- the place of a thing among all of them, by kind, then number: the channels, the binders, the levels
abbrev pub place_among : ℕ → ℕ → ℕ
place_among kind number =
    cond (eqb kind channel_kind) number
    (cond (eqb kind binder_kind) (most_channels + number)
    (most_channels + most_binders + number))

-- ---- a label

-- its bytes
abbrev pub bytes_of_label : Label → List ℕ
bytes_of_label label = take label.size label.bytes

-- 04, kind, number, and its bytes
abbrev pub label_of : List ℕ → Label
label_of frame =
    record {
      kind = byte 1 frame;
      number = byte 2 frame;
      size = length (drop 3 frame);
      bytes = padded longest_label 0 (drop 3 frame);
      sized = padded_holds longest_label 0 (drop 3 frame);
    }

-- `least` is the smallest place that may stand here: one more than the place before
abbrev pub label_rule : Head → ℕ → Label → Judged (Option Label)
label_rule h least label =
    cond (is_thing h label.kind label.number)
    (cond (ltb (place_among label.kind label.number) least) (Err NotAscending)
    (cond (is_label (bytes_of_label label)) (Ok (Some label))
    (Err IllFormedLabel)))
    (Err TooHigh)

-- a label, where the frame is one; of a later section it says that the labels are over
abbrev pub label_by : Bool → Head → ℕ → List ℕ → Judged (Option Label)
label_by true h least frame = label_rule h least (label_of frame)
label_by false h least frame = Ok None

abbrev pub label_in : Head → ℕ → Frame → List ℕ → Judged (Option Label)
label_in h least row frame = label_by (is_section row.section LabelLines) h least frame
