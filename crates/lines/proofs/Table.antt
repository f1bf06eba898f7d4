-- What the table says of every first byte: how long a frame of each kind and of each section is; and what is known where a frame is judged fine.
-- Assumes nothing.
use Prim.Native.Nat.{ℕ, ◌+◌, ◌%◌, ◌≤◌, ◌<◌}
use mathlib.Core.Path.{◌≡◌, refl, sym, ap, ◌∙◌, subst}
use mathlib.Core.Bool.{Bool, true, false, cond, not, ◌&&◌, ◌||◌}
use mathlib.Core.List.{List, [], ◌∷◌}
use native.Mathlib.Omega.{arith}
use native.Mathlib.Decide.{dec_lt}
use lib.Dec.{leb, ltb, eqb}
use lib.ListN.{length}
use borrow.Author.Tests.{eqb-false, leb-true, ltb-true, ltb-false, not-false}
use Rattle.std.specs.Prelude.{Option, Some, None, Ok, Err, IfOk}
use Rattle.lines.specs.declared.Head.{Head}
use Rattle.lines.specs.declared.frames.Kind.{Kind}
use Rattle.lines.specs.declared.frames.Kind.TheVariants.{Nil, Silent, Send, Receive, Sum, Parallel, Restriction, Match, Replication, Bracket}
use Rattle.lines.specs.declared.frames.Frame.{Frame}
use Rattle.lines.specs.declared.frames.Section.{Section}
use Rattle.lines.specs.declared.frames.Section.TheVariants.{FirstLine, FreeNames, OfferLines, LabelLines, TreeLines}
use Rattle.lines.specs.declared.frames.Span.{Span}
use Rattle.lines.specs.declared.reasons.Reason.TheVariants.{FaultyLine, NotAllowed, WrongSize, TextEnds}
use Rattle.limits.specs.Limits.{longest_label}
use Rattle.text.specs.Text.{Line, all_digits, odd_or_none, is_faulty, bytes_of, byte}
use Rattle.text.specs.Positions.{bytes_at, end_at, line_at, rest_at}
use Rattle.lines.specs.Frames.{rank, only, outside, Row, table, frame_from, frame_of, Judged, row_in, frame_for, frame_in, next_bytes}
use Rattle.lines.specs.Scope.{Scope}
use Rattle.lines.specs.Rules.{node_by, node_in}
use Rattle.lines.specs.inner.Working.{IsRow, Framing}
use Rattle.text.proofs.Tests.{or-false, and-true}
use Rattle.text.proofs.Lines.{rest_none, rest_split, bytes_length, ended_at}

-- ---- a property of every row

abbrev Each : (Frame → Type 0) → List Row → Type 0
Each P [] = Unit {0}
Each P (r ∷ rs) = P r.frame × Each P rs

module _ (P : Frame → Type 0) (first : ℕ) (row : Frame) where
  each_from : (rs : List Row) → Each P rs → frame_from rs first ≡ Some row → P row
  unfolding frame_from
  each_from [] e q = cc
  each_from (r ∷ rs) e q = go (eqb first r.first) (each_from rs e.1) q
    where
      go : (b : Bool) → (frame_from rs first ≡ Some row → P row) → cond b (Some r.frame) (frame_from rs first) ≡ Some row → P row
      go true h q = let same : r.frame ≡ row = cc in subst P same e.0
      go false h q = h q

-- how many bytes a frame of a kind of node has at least
abbrev least_of : Option Kind → ℕ
least_of None = 0
least_of (Some Nil) = 1
least_of (Some Silent) = 1
least_of (Some Send) = 3
least_of (Some Receive) = 4
least_of (Some Sum) = 1
least_of (Some Parallel) = 1
least_of (Some Restriction) = 3
least_of (Some Match) = 3
least_of (Some Replication) = 1
least_of (Some Bracket) = 2

-- only what is no node may have none
least_none : (kind : Option Kind) → least_of kind ≡ 0 → kind ≡ None
least_none None e = refl
least_none (Some Nil) e = absurd (omega arith)
least_none (Some Silent) e = absurd (omega arith)
least_none (Some Send) e = absurd (omega arith)
least_none (Some Receive) e = absurd (omega arith)
least_none (Some Sum) e = absurd (omega arith)
least_none (Some Parallel) e = absurd (omega arith)
least_none (Some Restriction) e = absurd (omega arith)
least_none (Some Match) e = absurd (omega arith)
least_none (Some Replication) e = absurd (omega arith)
least_none (Some Bracket) e = absurd (omega arith)

-- a frame that does not stand in the tree is no node
pub no_node : (first : ℕ) (row : Frame) → frame_of first ≡ Some row → rank row.section < rank TreeLines → row.kind ≡ None
unfolding table
no_node first row found before =
    least_none row.kind (each_from (λ f. rank f.section < rank TreeLines → least_of f.kind ≡ 0) first row table (omega arith) found before)

-- the row of a frame: what holds of every row holds of it
module _ (bytes : List ℕ) (row : Frame) (r : IsRow bytes row) where
  row_has : (P : Frame → Type 0) → Each P table → P row
  row_has P each = each_from P (byte 0 bytes) row table each r.found

  -- a frame of a kind has as many bytes
  pub long_by_kind : (kind own : Kind) → row.kind ≡ Some own → own ≡ kind → least_of (Some kind) ≤ length bytes
  unfolding table
  long_by_kind kind own e same =
      let asked : least_of (Some kind) ≤ row.least = rw (e, same) at (row_has (λ f. least_of f.kind ≤ f.least) (omega arith)) in
      omega arith

  -- and its rule is that of the kind, by whichever row the table has for its first byte
  pub rule_by_kind : (kind : Option Kind) → row.kind ≡ kind → (h : Head) (scope : Scope) (own : Frame) → frame_of (byte 0 bytes) ≡ Some own
      → node_by kind h scope bytes ≡ node_in h scope own bytes
  rule_by_kind kind e h scope own told =
      let found = r.found in
      let same : row ≡ own = cc in
      ap (λ (k : Option Kind). node_by k h scope bytes) (sym e ∙ ap (λ (f : Frame). f.kind) same)

  -- a frame of a section has as many bytes
  by_section : (section : Section) (least most : ℕ) → Each (λ f. rank f.section ≡ rank section → (least ≤ f.least) × (f.most ≤ most)) table
      → rank row.section ≡ rank section → (least ≤ length bytes) × (length bytes ≤ most)
  by_section section least most each e =
      let asked = row_has (λ f. rank f.section ≡ rank section → (least ≤ f.least) × (f.most ≤ most)) each e in
      (omega arith, omega arith)

  pub head_long : rank row.section ≡ rank FirstLine → length bytes ≡ 6
  unfolding table
  head_long e = omega (arith, by_section FirstLine 6 6 (omega arith) e)

  pub name_long : rank row.section ≡ rank FreeNames → length bytes ≡ 3
  unfolding table
  name_long e = omega (arith, by_section FreeNames 3 3 (omega arith) e)

  pub offer_long : rank row.section ≡ rank OfferLines → length bytes ≡ 6
  unfolding table
  offer_long e = omega (arith, by_section OfferLines 6 6 (omega arith) e)

  pub label_long : rank row.section ≡ rank LabelLines → (4 ≤ length bytes) × (length bytes ≤ 3 + longest_label)
  unfolding table
  label_long e = by_section LabelLines 4 (3 + longest_label) (omega arith) e

-- two sections with one place among all are one
pub one_section : (a b : Section) → rank a ≡ rank b → a ≡ b
one_section FirstLine FirstLine e = refl
one_section FreeNames FreeNames e = refl
one_section OfferLines OfferLines e = refl
one_section LabelLines LabelLines e = refl
one_section TreeLines TreeLines e = refl
one_section a b e = absurd (omega arith)

-- where one section alone is allowed, it is that
pub in_only : (section other : Section) → outside (only section) other ≡ false → other ≡ section
in_only section other e =
    let a = or-false (ltb (rank other) (rank section)) (ltb (rank section) (rank other)) e in
    let least = ltb-false (rank other) (rank section) a.0 in
    let most = ltb-false (rank section) (rank other) a.1 in
    one_section other section (omega arith)

-- ---- a line with no fault

-- its line feed is there, and it has one byte at least
pub record Sound (l : Line) : Type 0 where
  pub ended : l.ended ≡ true
  pub some : 0 < length (bytes_of l.characters)

pub sound : (l : Line) → is_faulty l ≡ false → Sound l
unfolding is_faulty odd_or_none
sound l e =
    let n = length l.characters in
    let size = odd_or_none n in
    let a = or-false (not l.ended) (not (all_digits l.characters) || size) e in
    let b = or-false (not (all_digits l.characters)) size a.1 in
    let d = or-false (eqb (n % 2) 1) (eqb n 0) b.1 in
    let odd : n % 2 ≡ 1 → ⊥ = eqb-false (n % 2) 1 d.0 in
    let none : n ≡ 0 → ⊥ = eqb-false n 0 d.1 in
    record {
      ended = not-false l.ended a.0;
      some = omega (arith, bytes_length l.characters);
    }

-- ---- a row at this point

-- where it is fine, the row is allowed and as long as it asks
pub record Fine (span : Span) (size : ℕ) (found : Option Frame) (row : Frame) : Type 0 where
  pub found_lem : found ≡ Some row
  pub allowed : outside span row.section ≡ false
  pub long : row.least ≤ size
  pub short : size ≤ row.most

pub row_fine : (span : Span) (size : ℕ) (found : Option Frame) (row : Frame) → row_in span size found ≡ Ok row → Fine span size found row
row_fine span size None row q = cc
row_fine span size (Some f) row q = go (outside span f.section) (leb f.least size && leb size f.most) refl refl q
  where
    go : (o l : Bool) → outside span f.section ≡ o → (leb f.least size && leb size f.most) ≡ l
        → cond o (Err NotAllowed) (cond l (Ok f) (Err WrongSize)) ≡ Ok row → Fine span size (Some f) row
    go true l eo el q = cc
    go false false eo el q = cc
    go false true eo el q =
        let same : f ≡ row = cc in
        let t = and-true (leb f.least size) (leb size f.most) el in
        subst (Fine span size (Some f)) same
        (record { found_lem = refl; allowed = eo; long = leb-true f.least size t.0; short = leb-true size f.most t.1 })

-- ---- the frame on the line at a position

module _ (s : List ℕ) (span : Span) (at : ℕ) where
  pub frame_none : length s ≤ at → frame_in span (rest_at s at) ≡ Err TextEnds
  frame_none h = rw (rest_none s at h)

  pub line_frame : at < length s → frame_in span (rest_at s at) ≡ cond (is_faulty (line_at s at)) (Err FaultyLine) (frame_for span (bytes_at s at))
  line_frame h = ap (frame_in span) (rest_split s at h)

  -- what is known of a line with no fault
  pub line_inside : at < length s → is_faulty (line_at s at) ≡ false → end_at s at < length s
  line_inside h e =
      ltb-true (end_at s at) (length s) (sym (ended_at s at (omega arith)) ∙ (sound (line_at s at) e).ended)

  pub framing : (row : Frame) → frame_in span (rest_at s at) ≡ Ok row → Framing s span at row
  framing row q = go (dec_lt at (length s))
    where
      at_line : (h : at < length s) (b : Bool) → is_faulty (line_at s at) ≡ b → Framing s span at row
      at_line h true e = let faulty : frame_in span (rest_at s at) ≡ Err FaultyLine = line_frame h ∙ rw e in cc
      at_line h false e =
          let judged : frame_for span (bytes_at s at) ≡ Ok row = sym (line_frame h ∙ rw e) ∙ q in
          let f = row_fine span (length (bytes_at s at)) (frame_of (byte 0 (bytes_at s at))) row judged in
          record {
            here = h;
            inside = line_inside h e;
            allowed = f.allowed;
            is_row = record { found = f.found_lem; long = f.long; short = f.short };
          }

      go : Dec (at < length s) → Framing s span at row
      go (yes h) = at_line h (is_faulty (line_at s at)) refl
      go (no n) = let none = frame_none (omega arith) in cc

-- whatever is judged, a frame that is fine is that of the line
pub framed : (s : List ℕ) (span : Span) (at : ℕ) (said : Judged Frame) → said ≡ frame_in span (rest_at s at) → IfOk said (Framing s span at)
framed s span at (Ok row) e = framing s span at row (sym e)
framed s span at (Err reason) e = tt

-- a frame: it is that of the line, whose bytes are read, with its row of the table
pub record Framed-fine (s : List ℕ) (span : Span) (at : ℕ) (row : Frame) : Type 0 where
  pub judged : frame_in span (rest_at s at) ≡ Ok row
  pub bytes_there : next_bytes (rest_at s at) ≡ bytes_at s at
  pub framing : Framing s span at row

pub framed_fine : (s : List ℕ) (span : Span) (at : ℕ) (there : Span) → there ≡ span → (said : Judged Frame) → said ≡ frame_in there (rest_at s at)
    → (row : Frame) → said ≡ Ok row → Framed-fine s span at row
framed_fine s span at there spanned said answered row good =
    let judged : frame_in span (rest_at s at) ≡ Ok row = ap (λ (p : Span). frame_in p (rest_at s at)) (sym spanned) ∙ sym answered ∙ good in
    record { judged = judged; bytes_there = refl; framing = framing s span at row judged }
