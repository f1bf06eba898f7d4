-- The whole text, by what the sections gave: free names, then offers, then labels, then a tree, then nothing more. Assumes nothing.
use Prim.Native.Nat.{ℕ, ◌+◌, ◌≤◌, ◌<◌}
use mathlib.Core.Path.{◌≡◌, refl, sym, ap, ◌∙◌, subst}
use mathlib.Core.Bool.{true, false}
use mathlib.Core.List.{List, [], ◌++◌}
use native.Mathlib.Omega.{arith}
use Rattle.std.specs.Prelude.{Result, Ok, Err}
use lib.Dec.{ltb, eqb}
use lib.ListN.{length, drop, replicate, length-replicate}
use lib.Seq.{sets, sets-eq}
use borrow.Author.Tests.{ltb-false}
use Rattle.text.specs.Positions.{rest_at}
use Rattle.lines.specs.declared.Head.{Head}
use Rattle.lines.specs.declared.Node.{Node}
use Rattle.lines.specs.declared.Node.TheVariants.{Nil}
use Rattle.limits.specs.Limits.{longest, most_names, most_nodes, most_depth}
use Rattle.lines.specs.declared.reasons.Reason.{Reason}
use Rattle.lines.specs.declared.reasons.Reason.TheVariants.{WrongLength, TextGoesOn}
use Rattle.lines.specs.Frames.{number_of}
use Rattle.lines.specs.Scope.{no_names, naming}
use Rattle.lines.specs.Line.{first_head}
use Rattle.lines.specs.Values.{padded, meaning_in}
use Rattle.lines.specs.Promise.{Gives, OnLine, LineWhole, HeadWithin}
use Rattle.text.proofs.Lists.{drop_replicate}
use Rattle.text.proofs.Tests.{or-false}
use Rattle.lines.proofs.Promise.{rest_none, rest_split, head_given, head_whole}
use Rattle.reading.specs.declared.Reading.{Reading}
use Rattle.reading.specs.declared.Refusal.{Refusal}
use Rattle.reading.specs.declared.cursor.Cursor.{Cursor}
use Rattle.reading.specs.declared.labels.Labels.{Labels}
use Rattle.reading.specs.declared.names.Names.{Names}
use Rattle.reading.specs.declared.offers.Offers.{Offers}
use Rattle.reading.specs.declared.tree.State.{State}
use Rattle.reading.specs.Tree.{listing}
use Rattle.reading.specs.Plan.{Outcome, Place, Named, read_names, Offered, read_offers, Labelled, read_labels, Grown, read_tree, Plan}
use Rattle.reading.specs.Plan.{closed, after_head, read_plan, wrong_length, plan_in, no_name, no_refusal, laying, offer_row}
use Rattle.reading.specs.Promise.{PlanWithin}
use Rattle.reading.specs.inner.Working.{Holds, reads, place_at, StandsIn, Past, FreshNames, Gathered, Gathers, FreshOffers, Laid, Lays, FreshLabels, Listed, Lists, FreshState, Grew, Grows}
use Rattle.reading.proofs.Growing.{onward_past}
use Rattle.reading.proofs.TreeWithin.{Ends}
use Rattle.reading.proofs.Promise.{after_within}

-- ---- a list stored in a blank array from its start is that list, padded

pad : {A : Type 0} (n : ℕ) (d : A) (xs : List A) → length xs ≤ n → sets (replicate n d) 0 xs ≡ padded n d xs
unfolding padded
pad n d xs h =
    let room : 0 + length xs ≤ length (replicate n d) = rw length-replicate (omega arith) in
    let here : 0 + length xs ≡ length xs = omega arith in
    sets-eq xs (replicate n d) 0 room
    ∙ ap (λ (l : List _). xs ++ l) (ap (λ (k : ℕ). drop k (replicate n d)) here ∙ drop_replicate (length xs) n d)

-- ---- a section's result tells how its reading ended

-- `Says` is what the section's contract says of an outcome, by the result
pub ended : {A R : Type 0} (Says : Outcome A → Type 0) (result : Result R Refusal)
    → ((f : Refusal) → Says (Err f) → result ≡ Err f) → ((a : A) → Says (Ok a) → (x : R) × (result ≡ Ok x)) → (o : Outcome A) → Says o
    → ((f : Refusal) → result ≡ Err f → o ≡ Err f) × ((x : R) → result ≡ Ok x → (a : A) × (o ≡ Ok a) × Says (Ok a))
ended Says result bad well (Err g) w = ((λ f e. let refused = bad g w in let same : g ≡ f = cc in ap Err same), λ x e. let refused = bad g w in cc)
ended Says result bad well (Ok a) w = ((λ f e. let read = (well a w).1 in cc), λ x e. (a, refl, w))

-- `P` is what the section's contract says of what was read and the state that holds it
module _ {A R : Type 0} (P : A → R → Type 0) where
  ended_badly : (o : Outcome A) (f : Refusal) → Holds P o (Err f) → o ≡ Err f
  ended_badly o f w = (ended (λ o. Holds P o (Err f)) (Err f) (λ g v. v) (λ a v. absurd v) o w).0 f refl

  ended_well : (o : Outcome A) (x : R) → Holds P o (Ok x) → (a : A) × (o ≡ Ok a) × P a x
  ended_well o x w = (ended (λ o. Holds P o (Ok x)) (Ok x) (λ f v. v) (λ a v. (x, refl)) o w).1 x refl

-- ---- what follows the head

module _ (s : List ℕ) (h : Head) (cursor : Cursor) (within : HeadWithin h) (none : Names) (fresh : FreshNames cursor none) where
  reads_names : Outcome Named
  reads_names = read_names h.names h 0 (place_at s cursor)

  names_there : (r : Result Names Refusal) → Gathers s none (read_names h.names h 0 (place_at s none.cursor)) r → Gathers s none reads_names r
  unfolding reads_names
  names_there r gathers = subst (λ (c : Cursor). Gathers s none (read_names h.names h 0 (place_at s c)) r) fresh.there gathers

  pub after_names : (f : Refusal) → Gathers s none (read_names h.names h 0 (place_at s none.cursor)) (Err f)
      → Err f ≡ reads (after_head h (place_at s cursor))
  unfolding after_head reads_names
  after_names f gathers = sym (rw (ended_badly (Gathered s none) reads_names f (names_there (Err f) gathers)))

  module _ (names : Names) (gathers : Gathers s none (read_names h.names h 0 (place_at s none.cursor)) (Ok names))
      (blank : Offers) (empty : FreshOffers names.cursor blank) where
    named : (n : Named) × (reads_names ≡ Ok n) × Gathered s none n names
    named = ended_well (Gathered s none) reads_names names (names_there (Ok names) gathers)

    pub names_stand : StandsIn s names.cursor
    names_stand = named.2.stands

    reads_offers : Outcome Offered
    reads_offers = read_offers h 0 named.0.after.line named.0.after.left

    offers_there : (r : Result Offers Refusal) → Lays s blank (read_offers h 0 blank.cursor.line (rest_at s blank.cursor.at)) r → Lays s blank reads_offers r
    unfolding reads_offers
    offers_there r lays =
        let place = sym (named.2.place ∙ ap (place_at s) (sym empty.there)) in
        subst (λ (p : Place). Lays s blank (read_offers h 0 p.line p.left) r) place lays

    pub after_offers : (f : Refusal) → Lays s blank (read_offers h 0 blank.cursor.line (rest_at s blank.cursor.at)) (Err f)
        → Err f ≡ reads (after_head h (place_at s cursor))
    unfolding after_head reads_names reads_offers
    after_offers f lays = sym (rw (named.1, ended_badly (Laid s blank) reads_offers f (offers_there (Err f) lays)))

    module _ (offers : Offers) (lays : Lays s blank (read_offers h 0 blank.cursor.line (rest_at s blank.cursor.at)) (Ok offers))
        (unlabelled : Labels) (bare : FreshLabels offers.cursor unlabelled) where
      offered : (n : Offered) × (reads_offers ≡ Ok n) × Laid s blank n offers
      offered = ended_well (Laid s blank) reads_offers offers (offers_there (Ok offers) lays)

      pub offers_stand : StandsIn s offers.cursor
      offers_stand = offered.2.stands

      reads_labels : Outcome Labelled
      reads_labels = read_labels h 0 [] offered.0.after.line offered.0.after.left

      labels_there : (r : Result Labels Refusal) → Lists s (read_labels h 0 [] unlabelled.cursor.line (rest_at s unlabelled.cursor.at)) r
          → Lists s reads_labels r
      unfolding reads_labels
      labels_there r lists =
          let place = sym (offered.2.place ∙ ap (place_at s) (sym bare.there)) in
          subst (λ (p : Place). Lists s (read_labels h 0 [] p.line p.left) r) place lists

      pub after_labels : (f : Refusal) → Lists s (read_labels h 0 [] unlabelled.cursor.line (rest_at s unlabelled.cursor.at)) (Err f)
          → Err f ≡ reads (after_head h (place_at s cursor))
      unfolding after_head reads_names reads_offers reads_labels
      after_labels f lists = sym (rw (named.1, offered.1, ended_badly (Listed s) reads_labels f (labels_there (Err f) lists)))

      module _ (labels : Labels) (lists : Lists s (read_labels h 0 [] unlabelled.cursor.line (rest_at s unlabelled.cursor.at)) (Ok labels))
          (bald : State) (clear : FreshState labels.cursor bald) where
        labelled : (n : Labelled) × (reads_labels ≡ Ok n) × Listed s n labels
        labelled = ended_well (Listed s) reads_labels labels (labels_there (Ok labels) lists)

        pub labels_stand : StandsIn s labels.cursor
        labels_stand = labelled.2.stands

        scope_there : meaning_in names.scope ≡ naming no_names named.0.names
        scope_there = named.2.scope ∙ ap (λ z. naming z named.0.names) fresh.scope

        reads_tree : Outcome Grown
        reads_tree = read_tree most_depth h (naming no_names named.0.names) 0 labelled.0.after

        fresh_nodes : List Node
        fresh_nodes = replicate most_nodes Nil

        tree_there : (r : Result State Refusal)
            → Grows s bald.nodes bald.count (read_tree most_depth h (meaning_in names.scope) bald.count (place_at s bald.cursor)) r
            → Grows s fresh_nodes 0 reads_tree r
        unfolding reads_tree fresh_nodes
        tree_there r grows = rw (clear.nodes, clear.none, clear.there, scope_there, ← labelled.2.place) at grows

        pub after_tree : (f : Refusal)
            → Grows s bald.nodes bald.count (read_tree most_depth h (meaning_in names.scope) bald.count (place_at s bald.cursor)) (Err f)
            → Err f ≡ reads (after_head h (place_at s cursor))
        unfolding after_head reads_names reads_offers reads_labels reads_tree
        after_tree f grows =
            sym (rw (named.1, offered.1, labelled.1, ended_badly (Grew s fresh_nodes 0) reads_tree f (tree_there (Err f) grows)))

        module _ (state : State)
            (grows : Grows s bald.nodes bald.count (read_tree most_depth h (meaning_in names.scope) bald.count (place_at s bald.cursor)) (Ok state)) where
          grown : (g : Grown) × (reads_tree ≡ Ok g) × Grew s fresh_nodes 0 g state
          grown = ended_well (Grew s fresh_nodes 0) reads_tree state (tree_there (Ok state) grows)

          plan : Plan
          plan = record { head = h; names = named.0.names; offers = offered.0.offers; labels = labelled.0.labels; tree = grown.0.tree }

          ends : after_head h (place_at s cursor) ≡ closed (place_at s state.cursor) (rest_at s state.cursor.at) plan
          unfolding after_head reads_names reads_offers reads_labels reads_tree plan
          ends = rw (named.1, offered.1, labelled.1, grown.1, grown.2.place)

          pub after_more : (f : Refusal) → state.cursor.at < length s → f ≡ record { number = number_of TextGoesOn; line = state.cursor.line }
              → Err f ≡ reads (after_head h (place_at s cursor))
          after_more f l made = sym (rw (ends, rest_split s state.cursor.at l, made))

          pub after_all : (r : Reading) → length s ≤ state.cursor.at
              → r ≡ record {
                refusal = no_refusal;
                head = h;
                names = names.names;
                offers = offers.row;
                labelled = labels.count;
                labels = labels.labels;
                count = state.count;
                nodes = state.nodes;
              }
              → Ok r ≡ reads (after_head h (place_at s cursor))
          unfolding plan fresh_nodes
          after_all r l made =
              let all : after_head h (place_at s cursor) ≡ Ok plan = ends ∙ rw (rest_none s state.cursor.at l) in
              let m = cursor.line + length (rest_at s cursor.at) in
              let w : PlanWithin plan = subst (Ends m PlanWithin) all (after_within m h (place_at s cursor) within (omega arith)) in
              let counted : length named.0.names ≡ h.names = w.counted in
              let few : length (listing grown.0.tree) ≤ most_nodes = w.few in
              let room : h.names ≤ most_names = within.names in
              let shown : names.names ≡ padded most_names no_name named.0.names =
              named.2.names
              ∙ ap (λ l. sets l none.count named.0.names) fresh.names
              ∙ ap (λ k. sets (replicate most_names no_name) k named.0.names) fresh.none
              ∙ pad most_names no_name named.0.names (omega arith) in
              let row : offers.row ≡ offer_row offered.0.offers = offered.2.row ∙ ap (λ l. laying l offered.0.offers) empty.row in
              let total : state.count ≡ length (listing grown.0.tree) = grown.2.count ∙ omega arith in
              let nodes : state.nodes ≡ padded most_nodes Nil (listing grown.0.tree) =
              grown.2.nodes ∙ pad most_nodes Nil (listing grown.0.tree) few in
              ap Ok
              (made
              ∙ (λ i. record {
                refusal = no_refusal;
                head = h;
                names = shown i;
                offers = row i;
                labelled = labelled.2.count i;
                labels = labelled.2.labels i;
                count = total i;
                nodes = nodes i;
              }))
              ∙ ap reads (sym all)

-- ---- the whole text, by what the first line said

abbrev start : Cursor
start = record { at = 0; line = 1 }

module _ (s : List ℕ) where
  pub text_wrong : (f : Refusal) → wrong_length (length s) ≡ true → f ≡ record { number = number_of WrongLength; line = 0 } → Err f ≡ reads (plan_in s)
  unfolding plan_in
  text_wrong f e made = sym (rw (e, made))

  pub text_short : wrong_length (length s) ≡ false → length s ≤ longest
  text_short e = ltb-false longest (length s) (or-false (eqb (length s) 0) (ltb longest (length s)) e).1

  module _ (right : wrong_length (length s) ≡ false) where
    plan_there : plan_in s ≡ read_plan (place_at s start)
    unfolding plan_in
    plan_there = rw right

    pub text_refused : (reason : Reason) (f : Refusal) → Err reason ≡ first_head (rest_at s 0) → f ≡ record { number = number_of reason; line = 1 }
        → Err f ≡ reads (plan_in s)
    unfolding read_plan
    text_refused reason f bad made = sym (rw (plan_there, ← bad, made))

    module _ (h : Head) (good : Ok h ≡ first_head (rest_at s 0)) where
      -- the head is within its limits, and its line is whole
      pub text_head : HeadWithin h × LineWhole s 0
      text_head =
          let within = subst (Gives (OnLine (rest_at s 0) HeadWithin)) (sym good) (head_given (rest_at s 0)) in
          (within.0, head_whole s 0 h (sym good))

      pub text_read : (next : Cursor) → Past s start next → reads (after_head h (place_at s next)) ≡ reads (plan_in s)
      unfolding read_plan
      text_read next past =
          ap reads (sym (plan_there ∙ rw (← good, onward_past s start next text_head.1.here past)))
