-- Document 01, 'Plan text' and 'Refusal numbers', and document 02's orders 1 and 2: from a text to a plan or its one refusal, line by line in order;
-- what one line says is the crate `lines`.
-- Assumes nothing.
use Rattle.std.specs.Prelude.{ℕ, zero, suc, ◌+◌, Bool, true, false, cond, ◌&&◌, ◌||◌, List, [], ◌∷◌, ◌++◌, Option, Some, None, Result, Ok, Err, length, replicate, set, ltb, eqb}
use Rattle.lines.specs.declared.FreeName.{FreeName}
use Rattle.lines.specs.declared.Head.{Head}
use Rattle.lines.specs.declared.label.Label.{Label}
use Rattle.lines.specs.declared.Node.{Node}
use Rattle.lines.specs.declared.Offer.{Offer}
use Rattle.lines.specs.declared.reasons.Reason.{Reason}
use Rattle.lines.specs.declared.reasons.Reason.TheVariants.{WrongLength, TooDeep, TextEnds, TextGoesOn, RepeatedLabel}
use Rattle.lines.specs.declared.Node.TheVariants.{Nil, Silent, Send, Receive, Sum, Parallel, Restriction, Match, Replication, Bracket}
use Rattle.sets.specs.Rows.{SetRow, empty_row}
use Rattle.limits.specs.Limits.{longest, most_channels, most_names, most_labels, most_nodes, most_depth}
use Rattle.text.specs.Text.{Line, lines_of, rest}
use Rattle.lines.specs.Frames.{number_of, Judged}
use Rattle.lines.specs.Scope.{Scope, no_names, naming, inside}
use Rattle.lines.specs.Labels.{place_among, bytes_of_label}
use Rattle.lines.specs.Line.{first_head, next_name, next_offer, next_label, next_node}
use Rattle.lines.specs.Values.{padded, no_label}
use Rattle.reading.specs.declared.Reading.{Reading}
use Rattle.reading.specs.declared.Refusal.{Refusal}
use Rattle.reading.specs.Tree.{Tree, nil, silent, send, receive, sum, parallel, restriction, match, replication, bracket, listing}

-- what reading ends in: what was read, or a refusal
abbrev pub Outcome : Type 0 → Type 0
Outcome A = Result A Refusal

-- where reading stands: the lines that are left, and the number of the first of them
pub record Place : Type 0 where
  pub line : ℕ
  pub left : List Line

-- one line on
abbrev pub onward : Place → Place
onward place = record { line = place.line + 1; left = rest place.left }

-- a refusal, at the line where reading stands
abbrev pub refuse : {A : Type 0} → Place → Reason → Outcome A
refuse place reason = Err (record { number = number_of reason; line = place.line })

-- what is judged of the line where reading stands: refused there, or gone on with
abbrev pub judged : {A B : Type 0} → Place → Judged A → (A → Outcome B) → Outcome B
judged place (Err reason) go_on = refuse place reason
judged place (Ok a) go_on = go_on a

abbrev pub and_then : {A B : Type 0} → Outcome A → (A → Outcome B) → Outcome B
and_then (Err f) go_on = Err f
and_then (Ok a) go_on = go_on a

-- ---- the free names

-- free names, and where reading stands behind them
pub record Named : Type 0 where
  pub names : List FreeName
  pub after : Place

abbrev pub before : FreeName → Named → Named
before f n = record { names = f ∷ n.names; after = n.after }

-- `many` free names, each `least` or more, strictly ascending
unfoldable pub read_names : ℕ → Head → ℕ → Place → Outcome Named
read_names zero h least place = Ok (record { names = []; after = place })
read_names (suc many) h least place =
    judged place (next_name h least place.left) λ name.
    and_then (read_names many h (name.name + 1) (onward place)) λ named. Ok (before name named)

-- ---- the offers

-- offers, and where reading stands behind them
pub record Offered : Type 0 where
  pub offers : List Offer
  pub after : Place

-- an offer and those behind it; none, where the offers are over
abbrev pub offers_from : Place → (Offer → Outcome Offered) → Option Offer → Outcome Offered
offers_from place behind (Some offer) =
    and_then (behind offer) λ offered. Ok (record { offers = offer ∷ offered.offers; after = offered.after })
offers_from place behind None = Ok (record { offers = []; after = place })

-- offers on channels that are `least` or more, strictly ascending, as many as stand on these lines, the first of which has the number `line`; 12 where
-- none is left
unfoldable pub read_offers : Head → ℕ → ℕ → List Line → Outcome Offered
read_offers h least line [] = refuse (record { line = line; left = [] }) TextEnds
read_offers h least line (l ∷ ls) =
    let place : Place = record { line = line; left = l ∷ ls } in
    judged place (next_offer h least (l ∷ ls)) (offers_from place λ offer. read_offers h (offer.channel + 1) (line + 1) ls)

-- ---- the labels

-- byte for byte the same
unfoldable pub same_bytes : List ℕ → List ℕ → Bool
same_bytes [] [] = true
same_bytes [] (y ∷ ys) = false
same_bytes (x ∷ xs) [] = false
same_bytes (x ∷ xs) (y ∷ ys) = eqb x y && same_bytes xs ys

-- a label is of this kind and has these bytes, whole and not shortened
unfoldable pub is_same : ℕ → List ℕ → Label → Bool
is_same kind bytes other = eqb other.kind kind && same_bytes (bytes_of_label other) bytes

-- one of those before is
unfoldable pub is_repeated : ℕ → List ℕ → List Label → Bool
is_repeated kind bytes [] = false
is_repeated kind bytes (other ∷ others) = is_same kind bytes other || is_repeated kind bytes others

-- labels, and where reading stands behind them
pub record Labelled : Type 0 where
  pub labels : List Label
  pub after : Place

-- a label behind those before it, and then the rest, or 18; no more, where the labels are over
abbrev pub labels_on : Place → List Label → (Label → Outcome Labelled) → Option Label → Outcome Labelled
labels_on place so_far behind (Some label) =
    let more = behind label in
    cond (is_repeated label.kind (bytes_of_label label) so_far) (refuse place RepeatedLabel) more
labels_on place so_far behind None = Ok (record { labels = so_far; after = place })

-- the labels `so_far`, and behind them those that stand on these lines, the first of which has the number `line`: of things whose places are `least`
-- or more, strictly ascending; 12 where no line is left
unfoldable pub read_labels : Head → ℕ → List Label → ℕ → List Line → Outcome Labelled
read_labels h least so_far line [] = refuse (record { line = line; left = [] }) TextEnds
read_labels h least so_far line (l ∷ ls) =
    let place : Place = record { line = line; left = l ∷ ls } in
    judged place (next_label h least (l ∷ ls))
    (labels_on place so_far λ label. read_labels h (place_among label.kind label.number + 1) (so_far ++ (label ∷ [])) (line + 1) ls)

-- ---- the tree

-- a tree, and where reading stands behind it
pub record Grown : Type 0 where
  pub tree : Tree
  pub after : Place

-- a reader of trees: where so many nodes are read, at a place
abbrev pub Reader : Type 0
Reader = ℕ → Place → Outcome Grown

-- one branch
abbrev pub one : (Tree → Tree) → Reader → Reader
one node branch count place =
    and_then (branch count place) λ g. Ok (record { tree = node g.tree; after = g.after })

-- two branches, the second where the first ended
abbrev pub two : (Tree → Tree → Tree) → Reader → Reader
two node branch count place =
    and_then (branch count place) λ g. one (node g.tree) branch (count + length (listing g.tree)) g.after

-- a node with its branches
unfoldable pub grow : Node → Reader → Reader
grow Nil branch = λ count place. Ok (record { tree = nil; after = place })
grow Silent branch = one silent branch
grow (Send x y) branch = one (send x y) branch
grow (Receive x y b) branch = one (receive x y b) branch
grow Sum branch = two sum branch
grow Parallel branch = two parallel branch
grow (Restriction x c) branch = one (restriction x c) branch
grow (Match x y) branch = one (match x y) branch
grow Replication branch = one replication branch
grow (Bracket l) branch = one (bracket l) branch

-- a tree of at most so much depth
unfoldable pub read_tree : ℕ → Head → Scope → Reader
read_tree zero h scope count place = judged place (next_node zero h scope count place.left) λ node. refuse place TooDeep
read_tree (suc depth) h scope count place =
    judged place (next_node (suc depth) h scope count place.left) λ node.
    grow node (read_tree depth h (inside node scope)) (count + 1) (onward place)

-- ---- the whole text

-- a plan: its head, its free names, its offers, its labels and its tree
pub record Plan : Type 0 where
  pub head : Head
  pub names : List FreeName
  pub offers : List Offer
  pub labels : List Label
  pub tree : Tree

-- the tree has closed: 13 where a line is left, without looking at it
abbrev pub closed : Place → List Line → Plan → Outcome Plan
closed place [] plan = Ok plan
closed place (l ∷ ls) plan = refuse place TextGoesOn

-- what follows the head: the free names, the offers, the labels, the tree, and nothing more
unfoldable pub after_head : Head → Place → Outcome Plan
after_head h place =
    and_then (read_names h.names h 0 place) λ named.
    and_then (read_offers h 0 named.after.line named.after.left) λ offered.
    and_then (read_labels h 0 [] offered.after.line offered.after.left) λ labelled.
    and_then (read_tree most_depth h (naming no_names named.names) 0 labelled.after) λ grown.
    closed grown.after grown.after.left
    (record { head = h; names = named.names; offers = offered.offers; labels = labelled.labels; tree = grown.tree })

unfoldable pub read_plan : Place → Outcome Plan
read_plan place = judged place (first_head place.left) λ h. after_head h (onward place)

-- a text is empty or too long
abbrev pub wrong_length : ℕ → Bool
wrong_length size = eqb size 0 || ltb longest size

-- 1 first of all, with line 0; then the lines in order, from number 1
unfoldable pub plan_in : List ℕ → Outcome Plan
plan_in text =
    cond (wrong_length (length text))
    (refuse (record { line = 0; left = [] }) WrongLength)
    (read_plan (record { line = 1; left = lines_of text }))

-- ---- what the reader returns

abbrev pub no_name : FreeName
no_name = record { name = 0; channel = 0 }

abbrev pub no_head : Head
no_head = record { channels = 0; binders = 0; top = 0; names = 0 }

abbrev pub no_refusal : Refusal
no_refusal = record { number = 0; line = 0 }

-- each offer laid in a row of sets at its channel
abbrev pub laying : SetRow → List Offer → SetRow
laying row [] = row
laying row (offer ∷ offers) = laying (set row offer.channel offer.set) offers

-- for each channel what is offered on it, and the empty set where nothing is
abbrev pub offer_row : List Offer → SetRow
offer_row = laying (empty_row most_channels)

-- a refused text gives nothing read
abbrev pub reading_of : Outcome Plan → Reading
reading_of (Err f) =
    record {
      refusal = f;
      head = no_head;
      names = replicate most_names no_name;
      offers = offer_row [];
      labelled = 0;
      labels = replicate most_labels no_label;
      count = 0;
      nodes = replicate most_nodes Nil;
    }
reading_of (Ok p) =
    record {
      refusal = no_refusal;
      head = p.head;
      names = padded most_names no_name p.names;
      offers = offer_row p.offers;
      labelled = length p.labels;
      labels = padded most_labels no_label p.labels;
      count = length (listing p.tree);
      nodes = padded most_nodes Nil (listing p.tree);
    }
