-- What the code holds while it reads, in the terms of the definitions: where it stands, the free names, the offers, the labels and the
-- nodes read so far.
-- Assumes nothing.
use Rattle.std.specs.Prelude.{ℕ, zero, suc, ◌+◌, ◌≤◌, ◌≡◌, List, Result, Ok, Err, IsOkAnd, length, replicate}
use Rattle.std.proofs.lemmas.List.Edits.{sets}
use Rattle.text.specs.Positions.{end_at, rest_at}
use Rattle.lines.specs.declared.Node.{Node}
use Rattle.lines.specs.declared.Node.TheVariants.{Nil}
use Rattle.sets.specs.Rows.{empty_row}
use Rattle.limits.specs.Limits.{longest, most_channels, most_names, most_labels, most_nodes}
use Rattle.lines.specs.Scope.{no_names, naming}
use Rattle.lines.specs.Values.{padded, no_label, meaning_in}
use Rattle.reading.specs.declared.Reading.{Reading}
use Rattle.reading.specs.declared.Refusal.{Refusal}
use Rattle.reading.specs.declared.cursor.Cursor.{Cursor}
use Rattle.reading.specs.declared.labels.Labels.{Labels}
use Rattle.reading.specs.declared.names.Names.{Names}
use Rattle.reading.specs.declared.offers.Offers.{Offers}
use Rattle.reading.specs.declared.tree.State.{State}
use Rattle.reading.specs.Tree.{listing}
use Rattle.reading.specs.Plan.{Outcome, Plan, Place, Named, Offered, laying, Labelled, Grown, Reader, no_name, reading_of}

-- ---- where reading stands

-- a cursor within a text that is not too long, whose line's number fits
pub record StandsIn (s : List ℕ) (cursor : Cursor) : Type 0 where
  pub short : length s ≤ longest
  pub within : cursor.at ≤ length s
  pub few : cursor.line ≤ cursor.at + 1

-- the place that a cursor stands at
abbrev pub place_at : List ℕ → Cursor → Place
place_at s cursor = record { line = cursor.line; left = rest_at s cursor.at }

-- one line on, where a line feed ends the line
pub record Past (s : List ℕ) (cursor r : Cursor) : Type 0 where
  pub at : r.at ≡ end_at s cursor.at + 1
  pub line : r.line ≡ cursor.line + 1

-- ---- what was read, as the code holds it

-- the refusal, or something that holds what was read
abbrev pub Holds : {A R : Type 0} → (A → R → Type 0) → Outcome A → Result R Refusal → Type 0
Holds P (Err f) r = r ≡ Err f
Holds P (Ok a) r = IsOkAnd r (P a)

-- the state that was lent, beside what is returned
abbrev pub beside : {U R : Type 0} → Result U Refusal → R → Result R Refusal
beside (Ok done) state = Ok state
beside (Err f) state = Err f

-- ---- the free names read so far

-- no free name yet
pub record FreshNames (cursor : Cursor) (r : Names) : Type 0 where
  pub there : r.cursor ≡ cursor
  pub none : r.count ≡ 0
  pub names : r.names ≡ replicate most_names no_name
  pub scope : meaning_in r.scope ≡ no_names

-- r is what was read before, with the free names n
pub record Gathered (s : List ℕ) (before : Names) (n : Named) (r : Names) : Type 0 where
  pub stands : StandsIn s r.cursor
  pub place : n.after ≡ place_at s r.cursor
  pub names : r.names ≡ sets before.names before.count n.names
  pub scope : meaning_in r.scope ≡ naming (meaning_in before.scope) n.names

abbrev pub Gathers : List ℕ → Names → Outcome Named → Result Names Refusal → Type 0
Gathers s before = Holds (Gathered s before)

-- ---- the offers read so far

-- no offer yet
pub record FreshOffers (cursor : Cursor) (r : Offers) : Type 0 where
  pub there : r.cursor ≡ cursor
  pub row : r.row ≡ empty_row most_channels

-- r is what was read before, with these offers
pub record Laid (s : List ℕ) (before : Offers) (offered : Offered) (r : Offers) : Type 0 where
  pub stands : StandsIn s r.cursor
  pub place : offered.after ≡ place_at s r.cursor
  pub row : r.row ≡ laying before.row offered.offers

abbrev pub Lays : List ℕ → Offers → Outcome Offered → Result Offers Refusal → Type 0
Lays s before = Holds (Laid s before)

-- ---- the labels read so far

-- no label yet
pub record FreshLabels (cursor : Cursor) (r : Labels) : Type 0 where
  pub there : r.cursor ≡ cursor
  pub least : r.least ≡ 0
  pub none : r.count ≡ 0
  pub labels : r.labels ≡ replicate most_labels no_label

-- r has these labels
pub record Listed (s : List ℕ) (labelled : Labelled) (r : Labels) : Type 0 where
  pub stands : StandsIn s r.cursor
  pub place : labelled.after ≡ place_at s r.cursor
  pub count : r.count ≡ length labelled.labels
  pub labels : r.labels ≡ padded most_labels no_label labelled.labels

abbrev pub Lists : List ℕ → Outcome Labelled → Result Labels Refusal → Type 0
Lists s = Holds (Listed s)

-- ---- the nodes read so far

-- no node yet
pub record FreshState (cursor : Cursor) (r : State) : Type 0 where
  pub there : r.cursor ≡ cursor
  pub none : r.count ≡ 0
  pub nodes : r.nodes ≡ replicate most_nodes Nil

-- r has the first n nodes of `before`, and then those of the tree
pub record Grew (s : List ℕ) (before : List Node) (n : ℕ) (g : Grown) (r : State) : Type 0 where
  pub stands : StandsIn s r.cursor
  pub place : g.after ≡ place_at s r.cursor
  pub count : r.count ≡ n + length (listing g.tree)
  pub nodes : r.nodes ≡ sets before n (listing g.tree)

abbrev pub Grows : List ℕ → List Node → ℕ → Outcome Grown → Result State Refusal → Type 0
Grows s before n = Holds (Grew s before n)

-- a second branch, where the first ended
abbrev pub GrowsOn : List ℕ → List Node → ℕ → Reader → Outcome Grown → Result State Refusal → Type 0
GrowsOn s before n branch (Err f) r = r ≡ Err f
GrowsOn s before n branch (Ok g) r =
    let count = n + length (listing g.tree) in
    Grows s (sets before n (listing g.tree)) count (branch count g.after) r

-- so many branches: none, one, or two
abbrev pub Branches : ℕ → List ℕ → State → Reader → Result State Refusal → Type 0
Branches zero s before branch r = r ≡ Ok before
Branches (suc zero) s before branch r =
    Grows s before.nodes before.count (branch before.count (place_at s before.cursor)) r
Branches (suc (suc n)) s before branch r =
    GrowsOn s before.nodes before.count branch (branch before.count (place_at s before.cursor)) r

-- ---- the whole text

-- what a plan says, or its refusal
abbrev pub reads : Outcome Plan → Result Reading Refusal
reads (Err f) = Err f
reads (Ok p) = Ok (reading_of (Ok p))
