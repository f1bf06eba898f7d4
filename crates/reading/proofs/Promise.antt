-- The promise of reading, for every text: `kept`, that number 0 is given exactly to a plan, and that the contract of `read` determines its outcome.
-- Assumes nothing.
use Prim.Native.Nat.{ℕ, suc, ◌+◌, ◌≤◌, ◌<◌}
use mathlib.Core.Path.{◌≡◌, refl, sym, ap, ◌∙◌}
use mathlib.Core.Logic.{◌↔◌}
use mathlib.Core.Bool.{Bool, true, false, cond, ◌||◌}
use mathlib.Core.List.{List, [], ◌∷◌}
use native.Mathlib.Decide.{dec_le}
use native.Mathlib.Omega.{arith}
use lib.Dec.{ltb, eqb, lit<}
use Rattle.std.specs.Prelude.{Ok, Err}
use lib.ListN.{length, take}
use lib.Seq.{take_all, length-take-le}
use borrow.Author.Tests.{ne_eqb, lt-ltb, ltb-false}
use Rattle.lines.specs.declared.Head.{Head}
use Rattle.limits.specs.Limits.{longest, most_depth}
use Rattle.text.specs.Text.{Line, line_feed, in_front, lines_of}
use Rattle.lines.specs.Scope.{no_names, naming}
use Rattle.lines.specs.Line.{first_head}
use Rattle.lines.specs.Promise.{OnLine, HeadWithin}
use Rattle.lines.proofs.Promise.{head_given, nothing_within}
use Rattle.reading.specs.declared.Reading.{Reading}
use Rattle.reading.specs.Plan.{Outcome, Place, onward, read_names, read_offers, read_labels, read_tree, Plan, closed, after_head, read_plan, plan_in, reading_of}
use Rattle.reading.specs.Promise.{NamesWithin, given_by, PlanWithin, Kept}
use Rattle.reading.proofs.TreeWithin.{Numbered, Ends, ends_then, ends_judged, numbered_on, names_within, OffersGood, offers_within, naming_within, TreeGood, tree_within}
use Rattle.reading.proofs.LabelsWithin.{LabelsGood, labels_within}

-- a text has no more lines than characters
few_lines : (s : List ℕ) → length (lines_of s) ≤ length s
unfolding lines_of
few_lines [] = omega arith
few_lines (c ∷ s) = go (eqb c line_feed) (lines_of s) (few_lines s)
  where
    go : (b : Bool) (ls : List Line) → length ls ≤ length s → length (in_front b c ls) ≤ suc (length s)
    go true ls h = omega arith
    go false [] h = omega arith
    go false (l ∷ ls) h = omega arith

-- nothing follows the tree
closed_within : (m : ℕ) (place : Place) (left : List Line) (p : Plan) → Numbered m place → PlanWithin p → Ends m PlanWithin (closed place left p)
closed_within m place [] p numbered w = w
closed_within m place (l ∷ ls) p numbered w = record { number = omega arith; line = omega arith }

pub after_within : (m : ℕ) (h : Head) (place : Place) → HeadWithin h → Numbered m place → Ends m PlanWithin (after_head h place)
unfolding after_head
after_within m h place within numbered =
    ends_then m (λ n. (length n.names ≡ h.names) × NamesWithin h 0 n.names × Numbered m n.after) PlanWithin (read_names h.names h 0 place) _
    (names_within m h h.names 0 place numbered)
    (λ n w. ends_then m (OffersGood m h 0) PlanWithin (read_offers h 0 n.after.line n.after.left) _
    (offers_within m h 0 n.after.line n.after.left w.2)
    (λ o v.
    let given = given_by n.names [] in
    let scope = naming no_names n.names in
    let named = naming_within h [] no_names 0 n.names (nothing_within h) w.1 in
    ends_then m (LabelsGood h m within) PlanWithin (read_labels h 0 [] o.after.line o.after.left) _
    (labels_within h m within [] o.after.line o.after.left tt v.1 0 refl)
    (λ l u.
    ends_then m (TreeGood m h given most_depth 0) PlanWithin (read_tree most_depth h scope 0 l.after) _
    (tree_within m h given most_depth scope 0 l.after named u.2)
    (λ g t.
    let plan : Plan = record { head = h; names = n.names; offers = o.offers; labels = l.labels; tree = g.tree } in
    closed_within m g.after g.after.left plan t.numbered
    (record {
      head = within;
      counted = w.0;
      names = w.1;
      offers = v.0;
      labels = u.0;
      labelled = u.1;
      nodes = t.nodes;
      few = let room = t.few in omega arith;
      shallow = t.shallow;
      scoped = t.scoped;
    })))))

plan_within : (m : ℕ) (place : Place) → Numbered m place → Ends m PlanWithin (read_plan place)
unfolding read_plan
plan_within m place numbered =
    ends_judged m (OnLine place.left HeadWithin) PlanWithin place (first_head place.left) _ numbered (head_given place.left)
    (λ h w. after_within m h (onward place) w.0 (numbered_on m place w.1 numbered))

-- every text: a refusal has one of reading's numbers and a line that fits two bytes, and a plan is within the limits
pub kept : (s : List ℕ) → Kept (plan_in s)
unfolding plan_in
kept s = go (eqb (length s) 0) (ltb longest (length s)) refl
  where
    order : (o : Outcome Plan) → length s ≤ longest → Ends (1 + length s) PlanWithin o → Kept o
    order (Err f) short w = (w.number, let line = w.line in omega arith)
    order (Ok p) short w = w

    go : (a b : Bool) → ltb longest (length s) ≡ b
        → Kept (cond (a || b) (Err (record { number = 1; line = 0 })) (read_plan (record { line = 1; left = lines_of s })))
    go true b e = (omega arith, lit< tt)
    go false true e = (omega arith, lit< tt)
    go false false e =
        order (read_plan (record { line = 1; left = lines_of s })) (ltb-false longest (length s) e)
        (plan_within (1 + length s) (record { line = 1; left = lines_of s }) (omega (arith, few_lines s)))

-- number 0 exactly where the text is a plan
pub number_zero : (s : List ℕ) → ((reading_of (plan_in s)).refusal.number ≡ 0) ↔ ((p : Plan) × (plan_in s ≡ Ok p))
number_zero s = (go (plan_in s) refl (kept s), λ w. ap (λ o. (reading_of o).refusal.number) w.1)
  where
    go : (o : Outcome Plan) → plan_in s ≡ o → Kept o → (reading_of o).refusal.number ≡ 0 → (p : Plan) × (plan_in s ≡ Ok p)
    go (Err f) e k z = let some = k.0.0 in absurd (omega arith)
    go (Ok p) e k z = (p, e)

-- a text is decided by any more bytes of it than the longest text has: what follows them changes nothing
pub cut_reads : (n : ℕ) (text : List ℕ) → longest < n → plan_in (take n text) ≡ plan_in text
unfolding plan_in
cut_reads n text more = go (dec_le (length text) n)
  where
    too_long : (s : List ℕ) → longest < length s → plan_in s ≡ Err (record { number = 1; line = 0 })
    too_long s h = simp (ne_eqb (length s) 0 (λ e. omega arith), lt-ltb longest (length s) h)

    go : Dec (length text ≤ n) → plan_in (take n text) ≡ plan_in text
    go (yes h) = ap plan_in (take_all n text h)
    go (no longer) =
        let cut = length-take-le n text (omega arith) in
        too_long (take n text) (omega arith) ∙ sym (too_long text (omega arith))

-- two outcomes that the contract of `read` admits are equal
pub once : (s : List ℕ) (a b : Reading) → a ≡ reading_of (plan_in s) → b ≡ reading_of (plan_in s) → a ≡ b
once s a b p q = p ∙ sym q
