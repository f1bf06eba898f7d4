-- Reading labels keeps the promise: each label is within the limits, no two of a kind have the same bytes, and there are at most 72.
-- Assumes nothing.
use Prim.Native.Nat.{ℕ, ◌+◌, ◌≤◌}
use mathlib.Core.Path.{◌≡◌, refl, sym, ap, ◌∙◌, subst}
use mathlib.Core.Bool.{Bool, true, false, cond}
use mathlib.Core.Logic.{⊎_elim}
use mathlib.Core.List.Memᴰ
use mathlib.Core.List.{List, [], ◌∷◌, ◌++◌, append-nil, append_assoc}
use native.Mathlib.Omega.{arith}
use borrow.Author.Tests.{eq-eqb}
use Rattle.std.specs.Prelude.{Option, Some, None}
use lib.ListN.{length}
use Rattle.limits.specs.Limits.{most_labels}
use Rattle.text.specs.Text.{Line}
use Rattle.text.proofs.Tests.{or-false}
use Rattle.lines.specs.declared.Head.{Head}
use Rattle.lines.specs.declared.label.Label.{Label}
use Rattle.lines.specs.declared.reasons.Reason.TheVariants.{RepeatedLabel}
use Rattle.lines.specs.Labels.{place_among, bytes_of_label}
use Rattle.lines.specs.Line.{next_label}
use Rattle.lines.specs.Promise.{OnLine, HeadWithin, LabelWithin, NextWithin}
use Rattle.lines.proofs.Promise.{label_given}
use Rattle.lines.proofs.Things.{place_below}
use Rattle.reading.specs.Plan.{Place, Outcome, refuse, Labelled, same_bytes, is_same, is_repeated, labels_on, read_labels}
use Rattle.reading.specs.Promise.{IsNew, LabelsWithin}
use Rattle.reading.proofs.TreeWithin.{Numbered, Ends, ends_judged}

-- ---- a label that is not repeated

same_bytes_lem : (xs : List ℕ) → same_bytes xs xs ≡ true
unfolding same_bytes
same_bytes_lem [] = refl
same_bytes_lem (x ∷ xs) = rw (eq-eqb x x refl, same_bytes_lem xs)

is_same_lem : (label other : Label) → other.kind ≡ label.kind → bytes_of_label other ≡ bytes_of_label label
    → is_same label.kind (bytes_of_label label) other ≡ true
unfolding is_same
is_same_lem label other kind bytes = rw (eq-eqb _ _ kind, bytes, same_bytes_lem (bytes_of_label label))

is_new : (before : List Label) (label : Label) → is_repeated label.kind (bytes_of_label label) before ≡ false → IsNew before label
unfolding is_repeated
is_new [] label e other m kind bytes = Memᴰ.not-nil m
is_new (b ∷ before) label e other m kind bytes =
    let none = or-false (is_same label.kind (bytes_of_label label) b) _ e in
    let both : other ≡ b → is_same label.kind (bytes_of_label label) b ≡ true =
    λ same. is_same_lem label b (ap (λ (l : Label). l.kind) (sym same) ∙ kind) (ap bytes_of_label (sym same) ∙ bytes) in
    ⊎_elim (λ same. let not_both = both same in cc) (λ rest. is_new before label none.1 other rest kind bytes) (Memᴰ.cases_cons m)

-- ---- one label more

-- the smallest place that may have a label behind these
abbrev place_behind : ℕ → List Label → ℕ
place_behind least [] = least
place_behind least (label ∷ labels) = place_behind (place_among label.kind label.number + 1) labels

behind_more : (least : ℕ) (labels : List Label) (label : Label)
    → place_among label.kind label.number + 1 ≡ place_behind least (labels ++ (label ∷ []))
behind_more least [] label = refl
behind_more least (b ∷ labels) label = behind_more (place_among b.kind b.number + 1) labels label

module _ (h : Head) where
  more_within : (least : ℕ) (before labels : List Label) (label : Label) → LabelsWithin h least before labels
      → LabelWithin h (place_behind least labels) label → IsNew (before ++ labels) label → LabelsWithin h least before (labels ++ (label ∷ []))
  more_within least before [] label w good new = (good, subst (λ l. IsNew l label) (append-nil before) new, tt)
  more_within least before (b ∷ labels) label w good new =
      let behind = subst (λ l. IsNew l label) (sym (append_assoc before (b ∷ []) labels)) new in
      (w.0, w.1, more_within (place_among b.kind b.number + 1) (before ++ (b ∷ [])) labels label w.2 good behind)

  -- each has a place of its own
  few_labels : HeadWithin h → (least : ℕ) (before labels : List Label) → least ≤ most_labels → LabelsWithin h least before labels
      → length labels + least ≤ most_labels
  few_labels within least before [] most w = omega arith
  few_labels within least before (label ∷ labels) most w =
      let ascending = w.0.ascending in
      let below = place_below h within label.kind label.number w.0.thing in
      let rest = few_labels within (place_among label.kind label.number + 1) (before ++ (label ∷ [])) labels (omega arith) w.2 in
      omega arith

  -- ---- the readers

  module _ (m : ℕ) (within : HeadWithin h) where
    abbrev pub LabelsGood : Labelled → Type 0
    LabelsGood labelled =
        LabelsWithin h 0 [] labelled.labels × (length labelled.labels ≤ most_labels) × Numbered m labelled.after

    on_within : (least : ℕ) (before : List Label) (place : Place) (onward : Label → Outcome Labelled) → Numbered m place
        → LabelsWithin h 0 [] before → ((label : Label) → LabelWithin h least label → IsNew before label → Ends m LabelsGood (onward label))
        → (next : Option Label) → NextWithin (LabelWithin h least) next → Ends m LabelsGood (labels_on place before onward next)
    on_within least before place onward numbered so_far good (Some label) w =
        go (is_repeated label.kind (bytes_of_label label) before) refl
      where
        go : (b : Bool) → is_repeated label.kind (bytes_of_label label) before ≡ b → Ends m LabelsGood (cond b (refuse place RepeatedLabel) (onward label))
        go true e = record { number = omega arith; line = omega arith }
        go false e = good label w (is_new before label e)
    on_within least before place onward numbered so_far good None w =
        (so_far, let few = few_labels within 0 [] before (omega arith) so_far in omega arith, numbered)

    pub labels_within : (before : List Label) (line : ℕ) (left : List Line) → LabelsWithin h 0 [] before → line + length left ≤ m
        → (least : ℕ) → least ≡ place_behind 0 before → Ends m LabelsGood (read_labels h least before line left)
    unfolding read_labels
    labels_within before line [] so_far numbered least first = record { number = omega arith; line = omega arith }
    labels_within before line (l ∷ ls) so_far numbered least first =
        let place : Place = record { line = line; left = l ∷ ls } in
        ends_judged m (OnLine (l ∷ ls) (NextWithin (LabelWithin h least))) LabelsGood place (next_label h least (l ∷ ls)) _ numbered
        (label_given (l ∷ ls) h least)
        (λ next w. on_within least before place _ numbered so_far
        (λ label good new.
        let more = more_within 0 [] before label so_far (subst (λ n. LabelWithin h n label) first good) new in
        labels_within (before ++ (label ∷ [])) (line + 1) ls more (omega arith) _ (behind_more 0 before label)) next w.0)
