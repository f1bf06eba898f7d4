-- Document 01, 'Refusal numbers', and document 02's orders 1 and 2: what the next line says as the head's, a free name's, an offer's, a label's or a
-- node's: its frame first (12, 2, 3, 4), room and depth for a node (10, 11), then the rule of its frame.
-- Assumes nothing.
use Rattle.std.specs.Prelude.{ℕ, cond, List, Option, Err, leb, eqb}
use Rattle.lines.specs.declared.FreeName.{FreeName}
use Rattle.lines.specs.declared.Head.{Head}
use Rattle.lines.specs.declared.Node.{Node}
use Rattle.lines.specs.declared.Offer.{Offer}
use Rattle.lines.specs.declared.label.Label.{Label}
use Rattle.lines.specs.declared.frames.Section.TheVariants.{FirstLine, FreeNames, OfferLines, LabelLines, TreeLines}
use Rattle.lines.specs.declared.reasons.Reason.TheVariants.{TooManyNodes, TooDeep}
use Rattle.limits.specs.Limits.{most_nodes}
use Rattle.text.specs.Text.{Line}
use Rattle.lines.specs.Frames.{only, to_tree, Judged, and_on, frame_in, next_bytes}
use Rattle.lines.specs.Scope.{Scope}
use Rattle.lines.specs.Rules.{head_in, name_in, offer_in, node_in}
use Rattle.lines.specs.Labels.{label_in}

-- the head, on the first line
abbrev pub first_head : List Line → Judged Head
first_head left = and_on (frame_in (only FirstLine) left) λ row. head_in (next_bytes left)

-- a free name that is `least` or more
abbrev pub next_name : Head → ℕ → List Line → Judged FreeName
next_name h least left = and_on (frame_in (only FreeNames) left) λ row. name_in h least (next_bytes left)

-- an offer on a channel that is `least` or more; or none, where the offers are over
abbrev pub next_offer : Head → ℕ → List Line → Judged (Option Offer)
next_offer h least left = and_on (frame_in (to_tree OfferLines) left) λ row. offer_in h least row (next_bytes left)

-- a label of a thing whose place is `least` or more; or none, where the labels are over
abbrev pub next_label : Head → ℕ → List Line → Judged (Option Label)
next_label h least left = and_on (frame_in (to_tree LabelLines) left) λ row. label_in h least row (next_bytes left)

-- a node, with so much depth left and so many nodes read: 10, 11, then its own rule
abbrev pub next_node : ℕ → Head → Scope → ℕ → List Line → Judged Node
next_node depth h scope count left =
    and_on (frame_in (only TreeLines) left) λ row.
    cond (leb most_nodes count) (Err TooManyNodes) (cond (eqb depth 0) (Err TooDeep) (node_in h scope row (next_bytes left)))
