-- The rules keep the limits: what they judge is one of reading's refusals, or something within the head's limits whose markers are given.
-- Assumes nothing.
use Prim.Native.Nat.{ℕ, ◌≤◌, ◌<◌}
use mathlib.Core.Path.{◌≡◌, refl}
use mathlib.Core.Bool.{Bool, true, false, cond, not, ◌||◌}
use mathlib.Core.List.{List, [], ◌∷◌}
use native.Mathlib.Omega.{arith}
use lib.Dec.{leb, ltb, eqb}
use lib.ListN.{length, length-drop}
use borrow.Author.Tests.{eqb-true, leb-false, ltb-false, eqb-false, not-false}
use Rattle.lines.specs.declared.Head.{Head}
use Rattle.lines.specs.declared.FreeName.{FreeName}
use Rattle.lines.specs.declared.Offer.{Offer}
use Rattle.lines.specs.declared.label.Label.{Label}
use Rattle.lines.specs.declared.Marker.{Marker}
use Rattle.lines.specs.declared.Node.{Node}
use Rattle.lines.specs.declared.Node.TheVariants.{Send, Receive, Match}
use Rattle.std.specs.Prelude.{Option, Some, None, Ok, Err}
use Rattle.lines.specs.declared.frames.Section.TheVariants.{LabelLines}
use Rattle.lines.specs.declared.reasons.Reason.{Reason}
use Rattle.lines.specs.declared.reasons.Reason.TheVariants.{WrongLength, FaultyLine, NotAllowed, WrongSize, OtherEdition, OutsideLimits, TooHigh, NotAscending, NoMeaning, TooManyNodes, TooDeep, TextEnds, TextGoesOn, EmptyOffer, IllFormedLabel, RepeatedLabel}
use Rattle.lines.specs.declared.frames.Frame.{Frame}
use Rattle.lines.specs.declared.frames.Span.{Span}
use Rattle.lines.specs.declared.frames.Kind.{Kind}
use Rattle.lines.specs.declared.frames.Kind.TheVariants as kind
use Rattle.sets.specs.Set.{Set, is_none, is_narrow}
use Rattle.sets.proofs.Minimum.{none_decides}
use Rattle.sets.proofs.Width.{narrow_decides}
use Rattle.limits.specs.Limits.{most_channels, most_binders, highest_level, highest_name, most_names, longest_label}
use Rattle.label_bytes.specs.Label.{is_label}
use Rattle.label_bytes.proofs.Labels.{label_test}
use Rattle.text.specs.Text.{Line, is_faulty, bytes_of, byte}
use Rattle.lines.specs.Frames.{number_of, rank, is_section, Judged, and_on, frame_for, frame_in, next_bytes}
use Rattle.lines.specs.Scope.{Scope}
use Rattle.lines.specs.Rules.{edition, outside_limits, head_rule, name_rule, offer_rule, offer_by, meant, pair_rule, receive_rule, restriction_rule, bracket_rule, node_by}
use Rattle.lines.specs.Labels.{is_thing, place_among, bytes_of_label, label_of, label_rule, label_by}
use Rattle.lines.specs.inner.Working.{IsRow}
use Rattle.lines.specs.Promise.{OfReading, Gives, OnLine, HeadWithin, NameWithin, OfferWithin, LabelWithin, NextWithin, MarkerWithin, IsGiven, ScopeWithin, NodeGood}
use Rattle.text.proofs.Tests.{or-false}
use Rattle.lines.proofs.Padded.{label_array}
use Rattle.lines.proofs.Table.{row_fine, label_long}
use Rattle.lines.proofs.Things.{thing_told}

-- ---- a test, and one thing judged after the other

pub gives_cond : {A : Type 0} (P : A → Type 0) (b : Bool) (x y : Judged A) → (b ≡ true → Gives P x) → (b ≡ false → Gives P y) → Gives P (cond b x y)
gives_cond P true x y h k = h refl
gives_cond P false x y h k = k refl

gives_on : {A B : Type 0} (P : A → Type 0) (Q : B → Type 0) (j : Judged A) (go_on : A → Judged B)
    → Gives P j → ((a : A) → P a → Gives Q (go_on a)) → Gives Q (and_on j go_on)
gives_on P Q (Err reason) go_on h k = h
gives_on P Q (Ok a) go_on h k = k a h

-- what holds besides
pub gives_more : {A : Type 0} (P : A → Type 0) (Q : Type 0) → Q → (j : Judged A) → Gives P j → Gives (λ a. P a × Q) j
gives_more P Q q (Err reason) w = w
gives_more P Q q (Ok a) w = (w, q)

-- ---- a frame

-- each reason has one of reading's numbers
numbered : (reason : Reason) → OfReading (number_of reason)
numbered WrongLength = omega arith
numbered FaultyLine = omega arith
numbered NotAllowed = omega arith
numbered WrongSize = omega arith
numbered OtherEdition = omega arith
numbered OutsideLimits = omega arith
numbered TooHigh = omega arith
numbered NotAscending = omega arith
numbered NoMeaning = omega arith
numbered TooManyNodes = omega arith
numbered TooDeep = omega arith
numbered TextEnds = omega arith
numbered TextGoesOn = omega arith
numbered EmptyOffer = omega arith
numbered IllFormedLabel = omega arith
numbered RepeatedLabel = omega arith

-- a frame stands on a line that is there, and is as long as its row of the table asks
abbrev Stands : List Line → Frame → Type 0
Stands left row = (0 < length left) × IsRow (next_bytes left) row

some_line : (span : Span) (left : List Line) → Gives (Stands left) (frame_in span left)
some_line span [] = omega arith
some_line span (l ∷ ls) =
    let bytes = bytes_of l.characters in
    gives_cond (Stands (l ∷ ls)) (is_faulty l) (Err FaultyLine) (frame_for span bytes) (λ e. omega arith) (λ e. go (frame_for span bytes) refl)
  where
    go : (said : Judged Frame) → frame_for span (bytes_of l.characters) ≡ said → Gives (Stands (l ∷ ls)) said
    go (Err reason) e = numbered reason
    go (Ok row) e =
        let f = row_fine span (length (bytes_of l.characters)) _ row e in
        (omega arith, record { found = f.found_lem; long = f.long; short = f.short })

-- what a rule gives for every such frame
pub on_line : {A : Type 0} (left : List Line) (P : A → Type 0) (span : Span) (rule : Frame → Judged A)
    → ((row : Frame) → IsRow (next_bytes left) row → Gives P (rule row)) → Gives (OnLine left P) (and_on (frame_in span left) rule)
on_line left P span rule within =
    gives_on (Stands left) (OnLine left P) (frame_in span left) rule (some_line span left)
    (λ row stands. gives_more P (0 < length left) stands.0 (rule row) (within row stands.1))

-- ---- the rules

pub head_within : (said : ℕ) (h : Head) → Gives HeadWithin (head_rule said h)
head_within said h =
    gives_cond HeadWithin (eqb said edition) (cond (outside_limits h) (Err OutsideLimits) (Ok h)) (Err OtherEdition)
    (λ e. gives_cond HeadWithin (outside_limits h) (Err OutsideLimits) (Ok h) (λ e. omega arith) within)
    (λ e. omega arith)
  where
    within : outside_limits h ≡ false → HeadWithin h
    within e =
        let a = or-false (eqb h.channels 0) _ e in
        let b = or-false (ltb most_channels h.channels) _ a.1 in
        let d = or-false (ltb most_binders h.binders) _ b.1 in
        let f = or-false (ltb highest_level h.top) _ d.1 in
        let none : h.channels ≡ 0 → ⊥ = eqb-false h.channels 0 a.0 in
        record {
          some = omega arith;
          channels = ltb-false most_channels h.channels b.0;
          binders = ltb-false most_binders h.binders d.0;
          top = ltb-false highest_level h.top f.0;
          names = ltb-false most_names h.names f.1;
        }

pub name_within : (h : Head) (least name channel : ℕ) → Gives (NameWithin h least) (name_rule h least name channel)
name_within h least name channel =
    gives_cond (NameWithin h least) (ltb highest_name name || leb h.channels channel) (Err TooHigh) later (λ e. omega arith)
    (λ e. gives_cond (NameWithin h least) (ltb name least) (Err NotAscending) (Ok (record { name = name; channel = channel })) (λ e. omega arith)
    (λ q. let a = or-false (ltb highest_name name) (leb h.channels channel) e in
    (ltb-false name least q, ltb-false highest_name name a.0, leb-false h.channels channel a.1)))
  where
    later : Judged FreeName
    later = cond (ltb name least) (Err NotAscending) (Ok (record { name = name; channel = channel }))

offer_fine : (h : Head) (least channel : ℕ) (set : Set) → (leb h.channels channel || not (is_narrow h.channels set)) ≡ false
    → ltb channel least ≡ false → is_none set ≡ false → OfferWithin h least (record { channel = channel; set = set })
offer_fine h least channel set high low none =
    let a = or-false (leb h.channels channel) (not (is_narrow h.channels set)) high in
    record {
      ascending = ltb-false channel least low;
      channel = leb-false h.channels channel a.0;
      handles = (narrow_decides h.channels set).yes (not-false (is_narrow h.channels set) a.1);
      some = (none_decides set).no none;
    }

offer_within : (h : Head) (least channel : ℕ) (set : Set) → Gives (NextWithin (OfferWithin h least)) (offer_rule h least channel set)
offer_within h least channel set =
    let P : Option Offer → Type 0 = NextWithin (OfferWithin h least) in
    let found : Judged (Option Offer) = Ok (Some (record { channel = channel; set = set })) in
    let some = cond (is_none set) (Err EmptyOffer) found in
    let ascending = cond (ltb channel least) (Err NotAscending) some in
    let high = leb h.channels channel || not (is_narrow h.channels set) in
    gives_cond P high (Err TooHigh) ascending (λ e. omega arith)
    (λ below. gives_cond P (ltb channel least) (Err NotAscending) some (λ e. omega arith)
    (λ up. gives_cond P (is_none set) (Err EmptyOffer) found (λ e. omega arith) (offer_fine h least channel set below up)))

-- where the offers are over, nothing is asked
pub next_offer_within : (own : Bool) (h : Head) (least : ℕ) (frame : List ℕ) → Gives (NextWithin (OfferWithin h least)) (offer_by own h least frame)
next_offer_within true h least frame = offer_within h least (byte 1 frame) _
next_offer_within false h least frame = tt

label_within : (h : Head) (least : ℕ) (label : Label) → 1 ≤ label.size → label.size ≤ longest_label → length label.bytes ≡ longest_label
    → Gives (NextWithin (LabelWithin h least)) (label_rule h least label)
label_within h least label some most array =
    let P : Option Label → Type 0 = NextWithin (LabelWithin h least) in
    let found : Judged (Option Label) = Ok (Some label) in
    let place = place_among label.kind label.number in
    let formed = cond (is_label (bytes_of_label label)) found (Err IllFormedLabel) in
    let ascending = cond (ltb place least) (Err NotAscending) formed in
    gives_cond P (is_thing h label.kind label.number) ascending (Err TooHigh)
    (λ thing. gives_cond P (ltb place least) (Err NotAscending) formed (λ e. omega arith)
    (λ up. gives_cond P (is_label (bytes_of_label label)) found (Err IllFormedLabel) (within thing up) (λ e. omega arith)))
    (λ e. omega arith)
  where
    within : is_thing h label.kind label.number ≡ true → ltb (place_among label.kind label.number) least ≡ false
        → is_label (bytes_of_label label) ≡ true → LabelWithin h least label
    within thing up well =
        record {
          ascending = ltb-false (place_among label.kind label.number) least up;
          thing = thing_told h label.kind label.number thing;
          some = some;
          most = most;
          array = array;
          well_formed = (label_test (bytes_of_label label)).0 well;
        }

-- where the labels are over, nothing is asked; a frame of the labels has 1 to 60 bytes more than three
pub next_label_within : (own : Bool) (h : Head) (least : ℕ) (row : Frame) (frame : List ℕ) → IsRow frame row → is_section row.section LabelLines ≡ own
    → Gives (NextWithin (LabelWithin h least)) (label_by own h least frame)
next_label_within true h least row frame is e =
    let long = label_long frame row is (eqb-true (rank row.section) (rank LabelLines) e) in
    let sized = length-drop 3 frame in
    label_within h least (label_of frame) (omega arith) (omega arith) (label_array frame long.1)
next_label_within false h least row frame is e = tt

module _ (h : Head) (given : List Marker) (scope : Scope) (within : ScopeWithin h given scope) where
  gives_meant : (P : Node → Type 0) (name : ℕ) (go_on : Marker → Judged Node)
      → ((m : Marker) → MarkerWithin h m → IsGiven given m → Gives P (go_on m)) → Gives P (meant (scope name) go_on)
  gives_meant P name go_on k = go (scope name) refl
    where
      go : (found : Option Marker) → scope name ≡ found → Gives P (meant found go_on)
      go None e = omega arith
      go (Some m) e = let w = within name m e in k m w.0 w.1

  pair_within : (node : Marker → Marker → Node) (x y : ℕ)
      → ((m n : Marker) → MarkerWithin h m → MarkerWithin h n → IsGiven given m → IsGiven given n → NodeGood h given (node m n))
      → Gives (NodeGood h given) (pair_rule node scope x y)
  pair_within node x y good =
      gives_cond (NodeGood h given) (ltb highest_name x || ltb highest_name y) (Err TooHigh) _ (λ e. omega arith)
      (λ e. gives_meant (NodeGood h given) x (λ m. meant (scope y) λ n. Ok (node m n))
      (λ m mw mg. gives_meant (NodeGood h given) y (λ n. Ok (node m n)) (λ n nw ng. good m n mw nw mg ng)))

  receive_within : (x y binder : ℕ) → Gives (NodeGood h given) (receive_rule h scope x y binder)
  receive_within x y binder =
      gives_cond (NodeGood h given) (ltb highest_name x || (ltb highest_name y || leb h.binders binder)) (Err TooHigh) _ (λ e. omega arith)
      (λ e. let a = or-false (ltb highest_name x) _ e in
      let b = or-false (ltb highest_name y) (leb h.binders binder) a.1 in
      gives_meant (NodeGood h given) x (λ m. Ok (Receive m y binder))
      (λ m mw mg. ((mw, ltb-false highest_name y b.0, leb-false h.binders binder b.1), mg)))

  restriction_within : (x channel : ℕ) → Gives (NodeGood h given) (restriction_rule h x channel)
  restriction_within x channel =
      gives_cond (NodeGood h given) (ltb highest_name x || leb h.channels channel) (Err TooHigh) _ (λ e. omega arith)
      (λ e. let a = or-false (ltb highest_name x) (leb h.channels channel) e in
      ((ltb-false highest_name x a.0, leb-false h.channels channel a.1), tt))

  bracket_within : (level : ℕ) → Gives (NodeGood h given) (bracket_rule h level)
  bracket_within level =
      gives_cond (NodeGood h given) (ltb h.top level) (Err TooHigh) _ (λ e. omega arith) (λ e. (ltb-false h.top level e, tt))

  pub node_within : (kind : Option Kind) (frame : List ℕ) → Gives (NodeGood h given) (node_by kind h scope frame)
  node_within None frame = omega arith
  node_within (Some kind.Nil) frame = (tt, tt)
  node_within (Some kind.Silent) frame = (tt, tt)
  node_within (Some kind.Send) frame = pair_within Send (byte 1 frame) (byte 2 frame) (λ m n a b c d. ((a, b), (c, d)))
  node_within (Some kind.Receive) frame = receive_within (byte 1 frame) (byte 2 frame) (byte 3 frame)
  node_within (Some kind.Sum) frame = (tt, tt)
  node_within (Some kind.Parallel) frame = (tt, tt)
  node_within (Some kind.Restriction) frame = restriction_within (byte 1 frame) (byte 2 frame)
  node_within (Some kind.Match) frame = pair_within Match (byte 1 frame) (byte 2 frame) (λ m n a b c d. ((a, b), (c, d)))
  node_within (Some kind.Replication) frame = (tt, tt)
  node_within (Some kind.Bracket) frame = bracket_within (byte 1 frame)
