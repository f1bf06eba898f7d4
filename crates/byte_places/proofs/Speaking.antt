-- What decides a number and what says its place agree: where a line is refused 6, 7 or 9, one of the tests that say the place is met. So a refusal that
-- speaks of a byte has the place of one. Assumes nothing.
use Prim.Native.Nat.{ℕ, ◌+◌, ◌^◌, ◌≤◌, ◌<◌}
use mathlib.Core.Path.{◌≡◌, refl, sym, ap, ◌∙◌}
use mathlib.Core.Bool.{Bool, true, false, cond, not, ◌&&◌, ◌||◌, or-true, or_assoc}
use mathlib.Core.List.{List, [], ◌∷◌}
use native.Mathlib.Omega.{arith}
use lib.Dec.{leb, ltb, eqb}
use lib.ListN.{length}
use borrow.Author.Tests.{eqb-true, lt-ltb, ltb-true}
use Rattle.std.proofs.lemmas.Iterator.Adapters.{position_from-zero}
use Rattle.std.specs.List.{position_from}
use Rattle.std.specs.Option.{is_none, option_map_or}
use Rattle.std.specs.Prelude.{Option, Some, None, Ok, Err}
use Rattle.limits.specs.Limits.{highest_name, most_nodes}
use Rattle.sets.specs.Set as sets
use Rattle.sets.specs.Set.{is_narrow, set_of_bytes}
use Rattle.sets.proofs.FourBytes.{bytes_narrow}
use Rattle.label_bytes.specs.Label.{is_label}
use Rattle.text.specs.Text.{Line, is_faulty, bytes_of, byte}
use Rattle.text.specs.Positions.{first_of}
use Rattle.text.proofs.Lines.{byte_small}
use Rattle.lines.specs.declared.Head.{Head}
use Rattle.lines.specs.declared.Marker.{Marker}
use Rattle.lines.specs.declared.Node.{Node}
use Rattle.lines.specs.declared.Node.TheVariants as node
use Rattle.lines.specs.declared.frames.Frame.{Frame}
use Rattle.lines.specs.declared.frames.Kind.{Kind}
use Rattle.lines.specs.declared.frames.Kind.TheVariants.{Send, Receive, Restriction, Match, Bracket}
use Rattle.lines.specs.declared.frames.Section.{Section}
use Rattle.lines.specs.declared.frames.Section.TheVariants.{FirstLine, FreeNames, OfferLines, LabelLines, TreeLines}
use Rattle.lines.specs.declared.frames.Span.{Span}
use Rattle.lines.specs.declared.reasons.Reason.{Reason}
use Rattle.lines.specs.declared.reasons.Reason.TheVariants.{FaultyLine, NotAllowed, WrongSize, OtherEdition, OutsideLimits, TooHigh, NotAscending, NoMeaning}
use Rattle.lines.specs.declared.reasons.Reason.TheVariants.{TooManyNodes, TooDeep, TextEnds, EmptyOffer, IllFormedLabel}
use Rattle.lines.specs.Frames.{number_of, rank, is_section, only, to_tree, outside, Judged, and_on, row_in, frame_of, frame_for, frame_in, next_bytes}
use Rattle.lines.specs.Labels.{level_kind, is_thing, place_among, bytes_of_label, label_of, label_by}
use Rattle.lines.specs.Line.{first_head, next_name, next_offer, next_label, next_node}
use Rattle.lines.specs.Rules.{edition, outside_limits, head_of, head_in, name_in, offer_by, meant, pair_rule, node_by}
use Rattle.lines.specs.Scope.{Scope}
use Rattle.lines.proofs.Promise.{no_node, one_section, in_only}
use Rattle.byte_places.specs.BytePlaces.{first_fault, limit_faults, is_wide, pair_faults, section_faults, frame_faults, pair_unmeant, frame_unmeant, byte_place}
use Rattle.byte_places.specs.Promise.{speaks, Placed}

-- ---- tests

-- one of the tests is met
abbrev any : List Bool → Bool
any [] = false
any (t ∷ []) = t
any (t ∷ u ∷ us) = t || any (u ∷ us)

met_from : (i : ℕ) (tests : List Bool) → any tests ≡ true → 1 ≤ option_map_or (λ k. k + 2) (position_from (λ t. t) i tests) 0
met_from i [] e = cc
met_from i (true ∷ ts) e = omega arith
met_from i (false ∷ []) e = cc
met_from i (false ∷ t ∷ ts) e = met_from (i + 1) (t ∷ ts) e

fault_some : (tests : List Bool) → any tests ≡ true → 1 ≤ first_fault tests
fault_some tests e = rw position_from-zero (met_from 0 tests e)

-- a refusal that speaks of no byte has no place
pub no_byte : (number : ℕ) → speaks number ≡ false → Placed number 0
no_byte number of_none = record { some = λ t. cc; none = λ t n. refl }

-- and one that speaks of one has the place of one
some_byte : (number place : ℕ) → speaks number ≡ true → 1 ≤ place → Placed number place
some_byte number place of_one found = record { some = λ t. found; none = λ t n. cc }

-- ---- what is judged of a line, by its refusal

-- P holds of the refusal, where a line is refused
abbrev pub Refuses : {A : Type 0} → (Reason → Type 0) → Judged A → Type 0
Refuses P (Err reason) = P reason
Refuses P (Ok a) = Unit {0}

refuses_cond : {A : Type 0} (P : Reason → Type 0) (b : Bool) (x y : Judged A) → (b ≡ true → Refuses P x) → (b ≡ false → Refuses P y) → Refuses P (cond b x y)
refuses_cond P true x y h k = h refl
refuses_cond P false x y h k = k refl

refuses_more : {A : Type 0} (P Q : Reason → Type 0) (j : Judged A) → ((reason : Reason) → P reason → Q reason) → Refuses P j → Refuses Q j
refuses_more P Q (Err reason) more h = more reason h
refuses_more P Q (Ok a) more h = tt

-- a line with no frame of the table that is allowed there is refused 12, 2, 3 or 4; any other by the rule of its row
refuses_on : {A : Type 0} (P : Reason → Type 0) (span : Span) (left : List Line) (rule : Frame → Judged A)
    → P TextEnds → P FaultyLine → P NotAllowed → P WrongSize
    → ((row : Frame) → frame_of (byte 0 (next_bytes left)) ≡ Some row → outside span row.section ≡ false → Refuses P (rule row))
    → Refuses P (and_on (frame_in span left) rule)
refuses_on P span [] rule ends faulty off size by_rule = ends
refuses_on P span (l ∷ ls) rule ends faulty off size by_rule = on_line (is_faulty l)
  where
    bytes : List ℕ
    bytes = bytes_of l.characters

    at_row : (row : Frame) → frame_of (byte 0 bytes) ≡ Some row → (out fits : Bool) → outside span row.section ≡ out
        → Refuses P (and_on (cond out (Err NotAllowed) (cond fits (Ok row) (Err WrongSize))) rule)
    at_row row found true fits e = off
    at_row row found false true e = by_rule row found e
    at_row row found false false e = size

    by_row : (found : Option Frame) → frame_of (byte 0 bytes) ≡ found → Refuses P (and_on (row_in span (length bytes) found) rule)
    by_row None e = off
    by_row (Some row) e = at_row row e (outside span row.section) (leb row.least (length bytes) && leb (length bytes) row.most) refl

    on_line : (bad : Bool) → Refuses P (and_on (cond bad (Err FaultyLine) (frame_for span bytes)) rule)
    on_line true = faulty
    on_line false = by_row (frame_of (byte 0 bytes)) refl

module _ (h : Head) (scope : Scope) (left : List Line) where
  abbrev frame : List ℕ
  frame = next_bytes left

  -- 6, 7 and 9 stand for a test that is met, and any other refusal for none
  abbrev Met : Reason → Type 0
  Met OutsideLimits = any (limit_faults (head_of frame)) ≡ true
  Met TooHigh = any (frame_faults h (frame_of (byte 0 frame)) frame) ≡ true
  Met NoMeaning = any (frame_unmeant scope (frame_of (byte 0 frame)) frame) ≡ true
  Met reason = Unit {0}

  -- where its test is met, a refusal has its place
  met_placed : (reason : Reason) → Met reason → Placed (number_of reason) (byte_place h scope left (number_of reason))
  met_placed FaultyLine met = record { some = λ t. cc; none = λ t n. absurd (n refl) }
  met_placed NotAllowed met = some_byte 3 1 refl (omega arith)
  met_placed OtherEdition met = some_byte 5 2 refl (omega arith)
  met_placed OutsideLimits met = some_byte 6 _ refl (fault_some (limit_faults (head_of frame)) met)
  met_placed TooHigh met = some_byte 7 _ refl (fault_some (frame_faults h (frame_of (byte 0 frame)) frame) met)
  met_placed NoMeaning met = some_byte 9 _ refl (fault_some (frame_unmeant scope (frame_of (byte 0 frame)) frame) met)
  met_placed reason met = no_byte (number_of reason) refl

  -- ---- the head

  head_met : Refuses Met (head_in frame)
  head_met =
      let k = head_of frame in
      refuses_cond Met (eqb (byte 1 frame) edition) _ (Err OtherEdition)
      (λ e. refuses_cond Met (outside_limits k) (Err OutsideLimits) (Ok k) (λ limit. rw or_assoc limit) (λ e. tt)) (λ e. tt)

  -- ---- an offer

  -- where a set has a handle that is not below C, one of its bytes has
  wide_byte : (a b c d : ℕ) → b < 0x100 → c < 0x100 → d < 0x100 → is_wide h (set_of_bytes a b c d) ≡ true
      → (is_wide h (set_of_bytes a 0 0 0) || (is_wide h (set_of_bytes 0 b 0 0) || (is_wide h (set_of_bytes 0 0 c 0) || is_wide h (set_of_bytes 0 0 0 d)))) ≡ true
  wide_byte a b c d b_byte c_byte d_byte wide =
      let w = h.channels in
      go (is_narrow w (set_of_bytes a 0 0 0)) (is_narrow w (set_of_bytes 0 b 0 0)) (is_narrow w (set_of_bytes 0 0 c 0)) (is_narrow w (set_of_bytes 0 0 0 d))
      (λ p q r s. bytes_narrow w a b c d b_byte c_byte d_byte (ltb-true _ _ p) (ltb-true _ _ q) (ltb-true _ _ r) (ltb-true _ _ s))
    where
      go : (first second third fourth : Bool) → (first ≡ true → second ≡ true → third ≡ true → fourth ≡ true → set_of_bytes a b c d < 2 ^ h.channels)
          → (not first || (not second || (not third || not fourth))) ≡ true
      go false second third fourth fits = refl
      go true false third fourth fits = refl
      go true true false fourth fits = refl
      go true true true false fits = refl
      go true true true true fits = sym (ap not (lt-ltb (set_of_bytes a b c d) (2 ^ h.channels) (fits refl refl refl refl))) ∙ wide

  -- ---- the names that a node uses

  used : {A : Type 0} (meaning : Option Marker) (go_on : Marker → Judged A) → (is_none meaning ≡ true → Met NoMeaning)
      → ((m : Marker) → Refuses Met (go_on m)) → Refuses Met (meant meaning go_on)
  used None go_on nine rest = nine refl
  used (Some m) go_on nine rest = rest m

  pair_met : (make : Marker → Marker → Node) → frame_faults h (frame_of (byte 0 frame)) frame ≡ pair_faults (byte 1 frame) (byte 2 frame)
      → frame_unmeant scope (frame_of (byte 0 frame)) frame ≡ pair_unmeant scope (byte 1 frame) (byte 2 frame)
      → Refuses Met (pair_rule make scope (byte 1 frame) (byte 2 frame))
  pair_met make faults unmeant =
      let x = byte 1 frame in
      let y = byte 2 frame in
      refuses_cond Met (ltb highest_name x || ltb highest_name y) (Err TooHigh) _ (λ t. rw faults t)
      (λ f. used (scope x) _ (λ n. rw (unmeant, n))
      (λ m. used (scope y) _ (λ n. rw (unmeant, n) (or-true (is_none (scope x)))) (λ k. tt)))

  -- ---- a frame, by its row of the table

  module _ (row : Frame) (found : frame_of (byte 0 frame) ≡ Some row) where
    -- the tests of a frame that is no node are those of its section
    in_section : (section : Section) → rank section < rank TreeLines → rank row.section ≡ rank section
        → frame_faults h (frame_of (byte 0 frame)) frame ≡ section_faults h section frame
    in_section section before e = rw (found, no_node (byte 0 frame) row found (omega arith), one_section row.section section e)

    name_met : (least : ℕ) → rank row.section ≡ rank FreeNames → Refuses Met (name_in h least frame)
    name_met least e =
        refuses_cond Met (ltb highest_name (byte 1 frame) || leb h.channels (byte 2 frame)) (Err TooHigh) _
        (λ t. rw (in_section FreeNames (omega arith) e) t)
        (λ f. refuses_cond Met (ltb (byte 1 frame) least) (Err NotAscending) (Ok _) (λ t. tt) (λ t. tt))

    offer_met : (least : ℕ) (own : Bool) → is_section row.section OfferLines ≡ own → Refuses Met (offer_by own h least frame)
    offer_met least false e = tt
    offer_met least true e =
        refuses_cond Met (channel || is_wide h set) (Err TooHigh) _
        (λ t. rw (in_section OfferLines (omega arith) (eqb-true (rank row.section) (rank OfferLines) e)) (either channel t))
        (λ f. refuses_cond Met (ltb (byte 1 frame) least) (Err NotAscending) _ (λ z. tt) (λ z. refuses_cond Met (sets.is_none set) (Err EmptyOffer) (Ok _) (λ z. tt) (λ z. tt)))
      where
        channel : Bool
        channel = leb h.channels (byte 1 frame)

        cs : List ℕ
        cs = (first_of left).characters

        set : ℕ
        set = set_of_bytes (byte 2 frame) (byte 3 frame) (byte 4 frame) (byte 5 frame)

        either : (off : Bool) → (off || is_wide h set) ≡ true
            → (off || (is_wide h (set_of_bytes (byte 2 frame) 0 0 0) || (is_wide h (set_of_bytes 0 (byte 3 frame) 0 0)
            || (is_wide h (set_of_bytes 0 0 (byte 4 frame) 0) || is_wide h (set_of_bytes 0 0 0 (byte 5 frame)))))) ≡ true
        either true t = refl
        either false t = wide_byte _ _ _ _ (byte_small cs 3) (byte_small cs 4) (byte_small cs 5) t

    label_met : (least : ℕ) (own : Bool) → is_section row.section LabelLines ≡ own → Refuses Met (label_by own h least frame)
    label_met least false e = tt
    label_met least true e =
        let thing = is_thing h (byte 1 frame) (byte 2 frame) in
        refuses_cond Met thing _ (Err TooHigh)
        (λ t. refuses_cond Met (ltb (place_among (byte 1 frame) (byte 2 frame)) least) (Err NotAscending) _ (λ z. tt)
        (λ z. refuses_cond Met (is_label (bytes_of_label (label_of frame))) (Ok _) (Err IllFormedLabel) (λ z. tt) (λ z. tt)))
        (λ f. rw (in_section LabelLines (omega arith) (eqb-true (rank row.section) (rank LabelLines) e), f) (or-true (ltb level_kind (byte 1 frame))))

    -- ---- a node

    node_met : (kind : Option Kind) → row.kind ≡ kind → Refuses Met (node_by kind h scope frame)
    node_met (Some Send) e = pair_met node.Send (rw (found, e)) (rw (found, e))
    node_met (Some Receive) e =
        let x = byte 1 frame in
        refuses_cond Met (ltb highest_name x || (ltb highest_name (byte 2 frame) || leb h.binders (byte 3 frame))) (Err TooHigh) _
        (λ t. rw (found, e) t) (λ f. used (scope x) _ (λ n. rw (found, e, n)) (λ m. tt))
    node_met (Some Restriction) e =
        refuses_cond Met (ltb highest_name (byte 1 frame) || leb h.channels (byte 2 frame)) (Err TooHigh) _ (λ t. rw (found, e) t) (λ f. tt)
    node_met (Some Match) e = pair_met node.Match (rw (found, e)) (rw (found, e))
    node_met (Some Bracket) e = refuses_cond Met (ltb h.top (byte 1 frame)) (Err TooHigh) _ (λ t. rw (found, e) t) (λ f. tt)
    node_met kind e = tt

    node_next : (depth count : ℕ)
        → Refuses Met (cond (leb most_nodes count) (Err TooManyNodes) (cond (eqb depth 0) (Err TooDeep) (node_by row.kind h scope frame)))
    node_next depth count =
        refuses_cond Met (leb most_nodes count) (Err TooManyNodes) _ (λ z. tt)
        (λ room. refuses_cond Met (eqb depth 0) (Err TooDeep) _ (λ z. tt) (λ deep. node_met row.kind refl))

  -- ---- a line

  -- where a line is refused, the refusal has its place
  abbrev pub Says : {A : Type 0} → Judged A → Type 0
  Says = Refuses (λ reason. Placed (number_of reason) (byte_place h scope left (number_of reason)))

  on_line : {A : Type 0} (span : Span) (rule : Frame → Judged A)
      → ((row : Frame) → frame_of (byte 0 frame) ≡ Some row → outside span row.section ≡ false → Refuses Met (rule row))
      → Says (and_on (frame_in span left) rule)
  on_line span rule by_rule =
      refuses_more Met _ (and_on (frame_in span left) rule) met_placed (refuses_on Met span left rule tt tt tt tt by_rule)

  pub head_says : Says (first_head left)
  head_says = on_line (only FirstLine) _ (λ row found allowed. head_met)

  pub name_says : (least : ℕ) → Says (next_name h least left)
  name_says least = on_line (only FreeNames) _ (λ row found allowed. name_met row found least (ap rank (in_only FreeNames row.section allowed)))

  pub offer_says : (least : ℕ) → Says (next_offer h least left)
  offer_says least = on_line (to_tree OfferLines) _ (λ row found allowed. offer_met row found least _ refl)

  pub label_says : (least : ℕ) → Says (next_label h least left)
  label_says least = on_line (to_tree LabelLines) _ (λ row found allowed. label_met row found least _ refl)

  pub node_says : (depth count : ℕ) → Says (next_node depth h scope count left)
  node_says depth count = on_line (only TreeLines) _ (λ row found allowed. node_next row found depth count)
