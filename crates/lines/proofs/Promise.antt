-- The promise of a line, for every text: what is judged of the lines that are left and of the line at a position, the case of an answer, and how
-- scopes stay within the limits. Nothing else of this crate's proofs is cited by the crates above, but for Things.
-- Assumes nothing.
use Prim.Native.Nat.{ℕ, ◌<◌}
use mathlib.Core.Path.{◌≡◌, refl, sym, subst}
use mathlib.Core.Bool.{Bool, true, false, cond}
use mathlib.Core.List.Memᴰ
use mathlib.Core.List.{List, [], ◌∷◌}
use native.Mathlib.Omega.{arith}
use lib.Dec.{leb, eqb}
use borrow.Author.Tests.{leb-false, eqb-false}
use Rattle.lines.specs.declared.FreeName.{FreeName}
use Rattle.lines.specs.declared.Head.{Head}
use Rattle.lines.specs.declared.label.Label.{Label}
use Rattle.lines.specs.declared.Marker.{Marker}
use Rattle.lines.specs.declared.Marker.TheVariants.{Channel, Binder}
use Rattle.lines.specs.declared.Node.{Node}
use Rattle.lines.specs.declared.Offer.{Offer}
use Rattle.lines.specs.declared.Node.TheVariants.{Nil, Silent, Send, Receive, Sum, Parallel, Restriction, Match, Replication, Bracket}
use Rattle.lines.specs.declared.frames.Span.{Span}
use Rattle.lines.specs.declared.frames.Frame.{Frame}
use Rattle.lines.specs.declared.frames.Section.TheVariants.{FirstLine, FreeNames, OfferLines, LabelLines, TreeLines}
use Rattle.lines.specs.declared.reasons.Reason.TheVariants.{TooManyNodes, TooDeep}
use Rattle.std.specs.Prelude.{Option, Some, Ok, Err}
use Rattle.limits.specs.Limits.{most_nodes}
use Rattle.text.specs.Text.{Line, byte}
use Rattle.text.specs.Positions.{rest_at, bytes_at}
use Rattle.lines.specs.Frames.{only, to_tree, is_section, Judged, and_on, frame_in, next_bytes}
use Rattle.lines.specs.Scope.{Scope, no_names, giving, inside}
use Rattle.lines.specs.Rules.{head_of, node_in}
use Rattle.lines.specs.Line.{first_head, next_name, next_offer, next_label, next_node}
use Rattle.lines.specs.Promise.{Gives, OnLine, LineWhole, NodeFits, HeadWithin, NameWithin, OfferWithin, LabelWithin, NextWithin, MarkerWithin, NodeWithin, IsGiven, enclosed, ScopeWithin, NodeGood, NodeNext}
use Rattle.lines.proofs.Table.{framing}
use Rattle.lines.proofs.RulesWithin.{gives_cond, gives_more, on_line, head_within, name_within, next_offer_within, next_label_within, node_within}
pub use Rattle.text.proofs.Lines.{rest_split, rest_none}
pub use Rattle.lines.proofs.Table.{no_node, one_section, in_only}

-- ---- the next line, where some are left

module _ (left : List Line) where
  pub head_given : Gives (OnLine left HeadWithin) (first_head left)
  head_given = on_line left HeadWithin (only FirstLine) _ (λ row is. head_within (byte 1 (next_bytes left)) (head_of (next_bytes left)))

  pub name_given : (h : Head) (least : ℕ) → Gives (OnLine left (NameWithin h least)) (next_name h least left)
  name_given h least =
      on_line left (NameWithin h least) (only FreeNames) _ (λ row is. name_within h least (byte 1 (next_bytes left)) (byte 2 (next_bytes left)))

  pub offer_given : (h : Head) (least : ℕ) → Gives (OnLine left (NextWithin (OfferWithin h least))) (next_offer h least left)
  offer_given h least =
      on_line left (NextWithin (OfferWithin h least)) (to_tree OfferLines) _
      (λ row is. next_offer_within (is_section row.section OfferLines) h least (next_bytes left))

  pub label_given : (h : Head) (least : ℕ) → Gives (OnLine left (NextWithin (LabelWithin h least))) (next_label h least left)
  label_given h least =
      on_line left (NextWithin (LabelWithin h least)) (to_tree LabelLines) _ (λ row is. next_label_within _ h least row (next_bytes left) is refl)

  pub node_given : (h : Head) (given : List Marker) (scope : Scope) (depth count : ℕ) → ScopeWithin h given scope
      → Gives (OnLine left (NodeNext h given count)) (next_node depth h scope count left)
  node_given h given scope depth count within = on_line left (NodeNext h given count) (only TreeLines) _ (λ row is. judged row)
    where
      judged : (row : Frame) → Gives (NodeNext h given count)
          (cond (leb most_nodes count) (Err TooManyNodes) (cond (eqb depth 0) (Err TooDeep) (node_in h scope row (next_bytes left))))
      judged row =
          let own = node_within h given scope within row.kind (next_bytes left) in
          gives_cond (NodeNext h given count) (leb most_nodes count) (Err TooManyNodes) _ (λ e. omega arith)
          (λ room. gives_cond (NodeNext h given count) (eqb depth 0) (Err TooDeep) (node_in h scope row (next_bytes left)) (λ e. omega arith)
          (λ deep. gives_more (NodeGood h given) (count < most_nodes) (leb-false most_nodes count room) (node_in h scope row (next_bytes left)) own))

-- ---- the line at a position, where something was found on it

module _ (s : List ℕ) (at : ℕ) where
  whole_frame : (span : Span) {A : Type 0} (go_on : Frame → Judged A) (a : A) → and_on (frame_in span (rest_at s at)) go_on ≡ Ok a → LineWhole s at
  whole_frame span go_on a q = go (frame_in span (rest_at s at)) refl q
    where
      go : (j : Judged Frame) → frame_in span (rest_at s at) ≡ j → and_on j go_on ≡ Ok a → LineWhole s at
      go (Err reason) e q = cc
      go (Ok row) e q = let f = framing s span at row e in record { here = f.here; ended = f.inside }

  pub head_whole : (h : Head) → first_head (rest_at s at) ≡ Ok h → LineWhole s at
  head_whole h q = whole_frame (only FirstLine) _ h q

  pub name_whole : (h : Head) (least : ℕ) (name : FreeName) → next_name h least (rest_at s at) ≡ Ok name → LineWhole s at
  name_whole h least name q = whole_frame (only FreeNames) _ name q

  pub offer_whole : (h : Head) (least : ℕ) (next : Option Offer) → next_offer h least (rest_at s at) ≡ Ok next → LineWhole s at
  offer_whole h least next q = whole_frame (to_tree OfferLines) _ next q

  pub label_whole : (h : Head) (least : ℕ) (next : Option Label) → next_label h least (rest_at s at) ≡ Ok next → LineWhole s at
  label_whole h least next q = whole_frame (to_tree LabelLines) _ next q

  pub node_fits : (depth : ℕ) (h : Head) (scope : Scope) (count : ℕ) (node : Node) → next_node depth h scope count (rest_at s at) ≡ Ok node
      → NodeFits s at depth count
  node_fits depth h scope count node q = go (frame_in (only TreeLines) (rest_at s at)) q (whole_frame (only TreeLines) judge node q)
    where
      judge : Frame → Judged Node
      judge row = cond (leb most_nodes count) (Err TooManyNodes) (cond (eqb depth 0) (Err TooDeep) (node_in h scope row (bytes_at s at)))

      tested : (full none : Bool) → leb most_nodes count ≡ full → eqb depth 0 ≡ none → (j : Judged Node)
          → cond full (Err TooManyNodes) (cond none (Err TooDeep) j) ≡ Ok node → LineWhole s at → NodeFits s at depth count
      tested true none ef en j q whole = cc
      tested false true ef en j q whole = cc
      tested false false ef en j q whole =
          record { whole = whole; room = leb-false most_nodes count ef; deep = eqb-false depth 0 en }

      go : (j : Judged Frame) → and_on j judge ≡ Ok node → LineWhole s at → NodeFits s at depth count
      go (Err reason) q whole = cc
      go (Ok row) q whole = tested (leb most_nodes count) (eqb depth 0) refl refl (node_in h scope row (bytes_at s at)) q whole

-- ---- the scope

pub nothing_within : (h : Head) → ScopeWithin h [] no_names
nothing_within h name m e = cc

pub giving_within : (h : Head) (given : List Marker) (scope : Scope) (name : ℕ) (m : Marker)
    → ScopeWithin h given scope → MarkerWithin h m → ScopeWithin h (m ∷ given) (giving name m scope)
giving_within h given scope name m within w other n e = go (eqb other name) e
  where
    go : (b : Bool) → cond b (Some m) (scope other) ≡ Some n → MarkerWithin h n × IsGiven (m ∷ given) n
    go true e = let same : n ≡ m = cc in (subst (MarkerWithin h) (sym same) w, Memᴰ.head same)
    go false e = let old = within other n e in (old.0, Memᴰ.tail old.1)

pub inside_within : (h : Head) (given : List Marker) (scope : Scope) (node : Node)
    → ScopeWithin h given scope → NodeWithin h node → ScopeWithin h (enclosed node given) (inside node scope)
inside_within h given scope Nil within w = within
inside_within h given scope Silent within w = within
inside_within h given scope (Send x y) within w = within
inside_within h given scope (Receive x y b) within w = giving_within h given scope y (Binder b) within w.2
inside_within h given scope Sum within w = within
inside_within h given scope Parallel within w = within
inside_within h given scope (Restriction x c) within w = giving_within h given scope x (Channel c) within w.1
inside_within h given scope (Match x y) within w = within
inside_within h given scope Replication within w = within
inside_within h given scope (Bracket l) within w = within
