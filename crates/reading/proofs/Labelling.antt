-- Labels read from a place, as the code's loop holds them: what the next line says of those so far, and that they are within the limits.
-- Assumes nothing.
use Prim.Native.Nat.{ℕ, ◌+◌, ◌≤◌, ◌<◌}
use mathlib.Core.Path.{◌≡◌, refl, sym, ap, ◌∙◌, subst}
use mathlib.Core.Bool.{Bool, true, false, cond}
use mathlib.Core.List.{List, [], ◌∷◌, ◌++◌}
use native.Mathlib.Omega.{arith}
use Rattle.std.specs.Prelude.{Option, Some, None, Ok, Err}
use lib.ListN.{length, take, set, length-append}
use lib.Seq.{take_at}
use Rattle.limits.specs.Limits.{most_labels}
use Rattle.text.specs.Text.{Line, rest}
use Rattle.text.specs.Positions.{rest_at}
use Rattle.lines.specs.declared.Head.{Head}
use Rattle.lines.specs.declared.label.Label.{Label}
use Rattle.lines.specs.declared.reasons.Reason.{Reason}
use Rattle.lines.specs.declared.reasons.Reason.TheVariants.{TextEnds, RepeatedLabel}
use Rattle.lines.specs.Frames.{number_of}
use Rattle.lines.specs.Labels.{place_among, bytes_of_label}
use Rattle.lines.specs.Line.{next_label}
use Rattle.lines.specs.Values.{padded, no_label}
use Rattle.lines.specs.Promise.{Gives, OnLine, LineWhole, HeadWithin, LabelWithin, NextWithin}
use Rattle.lines.proofs.Promise.{label_given, label_whole}
use Rattle.lines.proofs.Padded.{padded_length, padded_more}
use Rattle.lines.proofs.Things.{place_below}
use Rattle.reading.specs.declared.Refusal.{Refusal}
use Rattle.reading.specs.declared.labels.Labels.{Labels}
use Rattle.reading.specs.Plan.{Outcome, Place, refuse, Labelled, is_repeated, labels_on, read_labels}
use Rattle.reading.specs.inner.Working.{StandsIn, Past, FreshLabels, Lists}
use Rattle.reading.proofs.Growing.{onward_past}

-- ---- the labels, by what the next line says

module _ (h : Head) (least : ℕ) (before : List Label) (line : ℕ) where
  no_line : next_label h least [] ≡ Err TextEnds
  no_line = refl

  labels_faulty : (left : List Line) (reason : Reason) → next_label h least left ≡ Err reason
      → read_labels h least before line left ≡ refuse (record { line = line; left = left }) reason
  unfolding read_labels
  labels_faulty [] reason e = let same : reason ≡ TextEnds = cc no_line in rw same
  labels_faulty (l ∷ ls) reason e = rw e

  labels_fine : (left : List Line) (next : Option Label) → next_label h least left ≡ Ok next
      → read_labels h least before line left
      ≡ labels_on (record { line = line; left = left }) before
      (λ label. read_labels h (place_among label.kind label.number + 1) (before ++ (label ∷ [])) (line + 1) (rest left)) next
  unfolding read_labels
  labels_fine [] next e = cc no_line
  labels_fine (l ∷ ls) next e = rw e

-- ---- the labels so far, behind which the lines that are left decide the outcome

pub record SoFar (s : List ℕ) (h : Head) (o : Outcome Labelled) (state : Labels) : Type 0 where
  pub stands : StandsIn s state.cursor
  pub before : List Label
  pub goes : o ≡ read_labels h state.least before state.cursor.line (rest_at s state.cursor.at)
  pub held : state.labels ≡ padded most_labels no_label before
  pub counted : state.count ≡ length before
  pub fewer : state.count ≤ state.least
  pub most : state.least ≤ most_labels

pub so_far_none : (s : List ℕ) (h : Head) (state : Labels) → StandsIn s state.cursor → FreshLabels state.cursor state
    → SoFar s h (read_labels h 0 [] state.cursor.line (rest_at s state.cursor.at)) state
unfolding padded
so_far_none s h state stands fresh =
    record {
      stands = stands;
      before = [];
      goes = ap (λ l. read_labels h l [] state.cursor.line (rest_at s state.cursor.at)) (sym fresh.least);
      held = fresh.labels;
      counted = fresh.none;
      fewer = let least = fresh.least in let none = fresh.none in omega arith;
      most = let least = fresh.least in omega arith;
    }

module _ (s : List ℕ) (h : Head) (o : Outcome Labelled) (state : Labels) (so_far : SoFar s h o state) where
  -- as many as are counted, and these are the labels before
  pub labels_long : length state.labels ≡ most_labels
  labels_long =
      let few = so_far.counted in
      let fewer = so_far.fewer in
      let most = so_far.most in
      ap length so_far.held ∙ padded_length most_labels no_label so_far.before (omega arith)

  pub labels_before : take state.count state.labels ≡ so_far.before
  unfolding padded
  labels_before = ap (take state.count) so_far.held ∙ take_at so_far.before _ state.count (sym so_far.counted)

  pub room_counted : state.count ≤ length state.labels
  room_counted =
      let long = labels_long in
      let fewer = so_far.fewer in
      let most = so_far.most in
      omega arith

  -- what the next line says
  pub labels_refused : (reason : Reason) (f : Refusal) → Err reason ≡ next_label h state.least (rest_at s state.cursor.at)
      → f ≡ record { number = number_of reason; line = state.cursor.line } → Lists s o (Err f)
  labels_refused reason f bad made =
      rw (so_far.goes, labels_faulty h state.least so_far.before state.cursor.line (rest_at s state.cursor.at) reason (sym bad)) (ap Err made)

  pub labels_done : Ok None ≡ next_label h state.least (rest_at s state.cursor.at) → Lists s o (Ok state)
  labels_done none =
      rw (so_far.goes, labels_fine h state.least so_far.before state.cursor.line (rest_at s state.cursor.at) None (sym none))
      (record { stands = so_far.stands; place = refl; count = so_far.counted; labels = so_far.held })

  module _ (label : Label) (found : Ok (Some label) ≡ next_label h state.least (rest_at s state.cursor.at)) where
    pub label_there : LineWhole s state.cursor.at
    label_there = label_whole s state.cursor.at h state.least (Some label) (sym found)

    label_good : LabelWithin h state.least label
    label_good =
        let left = rest_at s state.cursor.at in
        (subst (Gives (OnLine left (NextWithin (LabelWithin h state.least)))) (sym found) (label_given left h state.least)).0

    pub label_below : HeadWithin h → place_among label.kind label.number < most_labels
    label_below within = place_below h within _ _ label_good.thing

    pub room_for_label : HeadWithin h → state.count < most_labels
    room_for_label within =
        let below = label_below within in
        let ascending = label_good.ascending in
        let fewer = so_far.fewer in
        omega arith

    repeated : Bool → Outcome Labelled
    repeated b =
        let place : Place = record { line = state.cursor.line; left = rest_at s state.cursor.at } in
        let on = read_labels h (place_among label.kind label.number + 1) (so_far.before ++ (label ∷ [])) (state.cursor.line + 1) (rest place.left) in
        cond b (refuse place RepeatedLabel) on

    -- by whether one of the labels before is the same
    module _ (b : Bool) (tested : b ≡ is_repeated label.kind (bytes_of_label label) (take state.count state.labels)) where
      is_repeated_lem : o ≡ repeated b
      unfolding repeated
      is_repeated_lem =
          let same = tested ∙ ap (is_repeated label.kind (bytes_of_label label)) labels_before in
          so_far.goes
          ∙ labels_fine h state.least so_far.before state.cursor.line _ (Some label) (sym found)
          ∙ ap repeated (sym same)

      pub label_repeated : b ≡ true → (f : Refusal) → f ≡ record { number = 18; line = state.cursor.line } → Lists s o (Err f)
      unfolding repeated
      label_repeated e f made = rw (is_repeated_lem, e) (ap Err made)

      pub labels_on_lem : b ≡ false → (next : Labels) → HeadWithin h → StandsIn s next.cursor
          → Past s state.cursor next.cursor → next.labels ≡ set state.labels state.count label → next.count ≡ state.count + 1
          → next.least ≡ place_among label.kind label.number + 1 → SoFar s h o next
      unfolding repeated
      labels_on_lem e next within stands past stored counted least =
          let more = so_far.before ++ (label ∷ []) in
          let onward = onward_past s state.cursor next.cursor label_there.here past in
          let count = so_far.counted in
          let below = label_below within in
          let room = room_for_label within in
          let ascending = label_good.ascending in
          let fewer = so_far.fewer in
          let long = length-append so_far.before (label ∷ []) in
          record {
            stands = stands;
            before = more;
            goes =
                is_repeated_lem
                ∙ ap repeated e
                ∙ ap (λ (p : Place). read_labels h (place_among label.kind label.number + 1) more p.line p.left) onward
                ∙ ap (λ l. read_labels h l more next.cursor.line (rest_at s next.cursor.at)) (sym least);
            held =
                stored
                ∙ ap (λ l. set l state.count label) so_far.held
                ∙ ap (λ n. set (padded most_labels no_label so_far.before) n label) count
                ∙ padded_more most_labels no_label so_far.before label (omega arith);
            counted = omega arith;
            fewer = omega arith;
            most = omega arith;
          }
