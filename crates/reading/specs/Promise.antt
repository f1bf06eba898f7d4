-- What reading promises of every text: a refusal has one of reading's numbers and a line that fits two bytes; a plan keeps the documents' limits, its
-- offers are below C, ascend and are not empty, its labels are well formed, ascend and are told apart within a kind, and every marker in it is that of a
-- free name, of an enclosing restriction or of an enclosing receive.
-- Assumes nothing.
use Rattle.std.specs.Prelude.{ℕ, ◌+◌, ◌^◌, ◌≤◌, ◌<◌, ◌≡◌, Ok, Err, length}
use mathlib.Core.List.{List, [], ◌∷◌, ◌++◌, Memᴰ}
use Rattle.lines.specs.declared.FreeName.{FreeName}
use Rattle.lines.specs.declared.Head.{Head}
use Rattle.lines.specs.declared.label.Label.{Label}
use Rattle.lines.specs.declared.Marker.{Marker}
use Rattle.lines.specs.declared.Marker.TheVariants.{Channel, Binder}
use Rattle.lines.specs.declared.Node.{Node}
use Rattle.lines.specs.declared.Offer.{Offer}
use Rattle.limits.specs.Limits.{most_labels, most_nodes, most_depth}
use Rattle.lines.specs.Labels.{place_among, bytes_of_label}
use Rattle.lines.specs.Promise.{OfReading, HeadWithin, NameWithin, OfferWithin, LabelWithin, NodeWithin, IsGiven}
use Rattle.reading.specs.Tree.{Tree, nil, silent, send, receive, sum, parallel, restriction, match, replication, bracket, listing, depth}
use Rattle.reading.specs.Plan.{Outcome, Plan}

-- ---- the limits

-- each within the limits, and strictly ascending from `least` on
abbrev pub NamesWithin : Head → ℕ → List FreeName → Type 0
NamesWithin h least [] = Unit {0}
NamesWithin h least (f ∷ fs) =
    NameWithin h least f × NamesWithin h (f.name + 1) fs

abbrev pub OffersWithin : Head → ℕ → List Offer → Type 0
OffersWithin h least [] = Unit {0}
OffersWithin h least (offer ∷ offers) =
    OfferWithin h least offer × OffersWithin h (offer.channel + 1) offers

-- no label before it has its kind and its bytes
abbrev pub IsNew : List Label → Label → Type 0
IsNew before label =
    (other : Label) → Memᴰ other before → other.kind ≡ label.kind → bytes_of_label other ≡ bytes_of_label label → ⊥

-- those behind the labels `before`
abbrev pub LabelsWithin : Head → ℕ → List Label → List Label → Type 0
LabelsWithin h least before [] = Unit {0}
LabelsWithin h least before (label ∷ labels) =
    LabelWithin h least label
    × IsNew before label
    × LabelsWithin h (place_among label.kind label.number + 1) (before ++ (label ∷ [])) labels

abbrev pub EachWithin : Head → List Node → Type 0
EachWithin h [] = Unit {0}
EachWithin h (n ∷ ns) = NodeWithin h n × EachWithin h ns

-- ---- the givers of markers

-- each marker in the tree is given outside it, or by an enclosing receive or restriction in it
abbrev pub Scoped : List Marker → Tree → Type 0
Scoped given nil = Unit {0}
Scoped given (silent p) = Scoped given p
Scoped given (send x y p) = IsGiven given x × IsGiven given y × Scoped given p
Scoped given (receive x y b p) = IsGiven given x × Scoped (Binder b ∷ given) p
Scoped given (sum p q) = Scoped given p × Scoped given q
Scoped given (parallel p q) = Scoped given p × Scoped given q
Scoped given (restriction x c p) = Scoped (Channel c ∷ given) p
Scoped given (match x y p) = IsGiven given x × IsGiven given y × Scoped given p
Scoped given (replication p) = Scoped given p
Scoped given (bracket l p) = Scoped given p

-- the markers that free names give: their channels
abbrev pub given_by : List FreeName → List Marker → List Marker
given_by [] given = given
given_by (f ∷ fs) given = given_by fs (Channel f.channel ∷ given)

-- ---- the promise

pub record PlanWithin (p : Plan) : Type 0 where
  pub head : HeadWithin p.head
  pub counted : length p.names ≡ p.head.names
  pub names : NamesWithin p.head 0 p.names
  pub offers : OffersWithin p.head 0 p.offers
  pub labels : LabelsWithin p.head 0 [] p.labels
  pub labelled : length p.labels ≤ most_labels
  pub nodes : EachWithin p.head (listing p.tree)
  pub few : length (listing p.tree) ≤ most_nodes
  pub shallow : depth p.tree ≤ most_depth
  pub scoped : Scoped (given_by p.names []) p.tree

abbrev pub Kept : Outcome Plan → Type 0
Kept (Err f) = OfReading f.number × (f.line < 2 ^ 16)
Kept (Ok p) = PlanWithin p
