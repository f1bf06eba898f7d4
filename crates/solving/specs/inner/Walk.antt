-- What the walk of a round promises, for the code's inner contracts alone. `old` is the table as it was when the round began,
-- `new` the one that is added to. A node has a level where the clauses passed so far ask it to hold, and none where they do not.
-- Assumes nothing.
use Rattle.std.specs.Prelude.{ℕ, ◌+◌, ◌<◌, ◌≤◌, Bool, true, false, ◌≡◌, Option, Some, None, IfSome, List, [], ◌∷◌, ◌++◌, ◌⊎◌, length, get_or}
use Rattle.lines.specs.declared.Head.{Head}
use Rattle.lines.specs.declared.Node.{Node}
use Rattle.lines.specs.declared.Node.TheVariants.{Nil, Silent, Send, Receive, Sum, Parallel, Restriction, Match, Replication, Bracket}
use Rattle.sets.specs.Rows.{SetRow}
use Rattle.lines.specs.Promise.{HeadWithin, NodeWithin}
use Rattle.reading.specs.Plan.{Plan, offer_row, no_refusal}
use Rattle.reading.specs.Promise.{EachWithin, PlanWithin}
use Rattle.reading.specs.Tree.{Tree, listing, depth}
use Rattle.solving.specs.declared.Solution.{Solution}
use Rattle.solving.specs.Solutions.{Sets, Level}
use Rattle.solving.specs.Clauses.{Some as SomeIn, Heard, Meets}
use Rattle.solving.specs.Rounds.{SendWants, ReceiveWants, BracketWants, Wants, Wanted, Exceeds}
use Rattle.solving.specs.Solve.{Answered}
use Rattle.solving.specs.inner.Table.{in_table, Adds}

-- ---- one node

-- the answer is whether C holds; where it does, what W says is added
abbrev pub Asked : Type 0 → Sets → SetRow → Bool → SetRow → Type 0
Asked C W new false then = (C → ⊥) × (then ≡ new)
Asked C W new true then = C × Adds new then W

-- what a node's clause asks before it wants anything
abbrev pub Condition : Node → Sets → Type 0
Condition Nil s = Unit {0}
Condition Silent s = Unit {0}
Condition (Send x y) s = SomeIn s x × SomeIn s y
Condition (Receive x y b) s = Heard s x
Condition Sum s = Unit {0}
Condition Parallel s = Unit {0}
Condition (Restriction x c) s = Unit {0}
Condition (Match x y) s = Meets s x y
Condition Replication s = Unit {0}
Condition (Bracket m) s = Unit {0}

-- what it wants included by itself, its branches apart
abbrev pub Own : Node → ℕ → Sets → Sets
Own Nil l s f = ⊥
Own Silent l s f = ⊥
Own (Send x y) l s f = SendWants s x y l f
Own (Receive x y b) l s f = ReceiveWants s x b l f
Own Sum l s f = ⊥
Own Parallel l s f = ⊥
Own (Restriction x c) l s f = ⊥
Own (Match x y) l s f = ⊥
Own Replication l s f = ⊥
Own (Bracket m) l s f = BracketWants s m l f

-- the level of its branches
abbrev pub level_in : Node → ℕ → ℕ
level_in Nil l = l
level_in Silent l = l
level_in (Send x y) l = l
level_in (Receive x y b) l = l
level_in Sum l = l
level_in Parallel l = l
level_in (Restriction x c) l = l
level_in (Match x y) l = l
level_in Replication l = l
level_in (Bracket m) l = m

-- what a clause needs: a node and its level, of a plan with some head
pub record Able (n : Node) (level : Option ℕ) : Type 0 where
  pub head : Head
  pub fits : HeadWithin head
  pub leveled : IfSome level (Level head)
  pub within : NodeWithin head n

-- r is the level of the branches, where the clause asks them to hold; then what the node itself wants is added
abbrev pub Stepped : Node → Option ℕ → SetRow → SetRow → Option ℕ → SetRow → Type 0
Stepped n None old new r then = (r ≡ None) × (then ≡ new)
Stepped n (Some l) old new None then = (Condition n (in_table old) → ⊥) × (then ≡ new)
Stepped n (Some l) old new (Some inner) then =
    (inner ≡ level_in n l) × Condition n (in_table old) × Adds new then (Own n l (in_table old))

-- ---- trees in prefix order

abbrev pub node_at : List Node → ℕ → Node
node_at ns i = get_or ns i Nil

-- these nodes stand from i on
abbrev pub Stands : List Node → ℕ → List Node → Type 0
Stands ns i [] = Unit {0}
Stands ns i (n ∷ xs) = (i < length ns) × (node_at ns i ≡ n) × Stands ns (i + 1) xs

-- the nodes of one tree after the other
abbrev pub listings : List Tree → List Node
listings [] = []
listings (p ∷ ps) = listing p ++ listings ps

-- none is deeper than d
abbrev pub EachDepth : ℕ → List Tree → Type 0
EachDepth d [] = Unit {0}
EachDepth d (p ∷ ps) = (depth p ≤ d) × EachDepth d ps

-- what the walk from one of them wants
abbrev pub SomeWants : List Tree → ℕ → Sets → Sets
SomeWants [] l s f = ⊥
SomeWants (p ∷ ps) l s f = Wants p l s f ⊎ SomeWants ps l s f

-- the same, of trees that have a level or none: where they have none, nothing
abbrev pub WantsAt : List Tree → Option ℕ → Sets → Sets
WantsAt ps None s f = ⊥
WantsAt ps (Some l) s f = SomeWants ps l s f

-- trees of a plan with this head stand from `at` on
pub record Planted (h : Head) (depth : ℕ) (ns : List Node) (at : ℕ) (ps : List Tree) : Type 0 where
  pub stands : Stands ns at (listings ps)
  pub deep : EachDepth depth ps
  pub within : EachWithin h (listings ps)

-- what the walk of `branches` trees needs
pub record Ready (depth : ℕ) (ns : List Node) (at : ℕ) (level : Option ℕ) (branches : ℕ) : Type 0 where
  pub head : Head
  pub fits : HeadWithin head
  pub leveled : IfSome level (Level head)
  pub trees : List Tree
  pub many : length trees ≡ branches
  pub planted : Planted head depth ns at trees

-- the walk of the trees that stand at `at` ends behind them, and has added what they want
pub record Walked (ns : List Node) (at : ℕ) (level : Option ℕ) (branches : ℕ) (old new : SetRow) (r : ℕ) (then : SetRow) : Type 0 where
  pub next : (ps : List Tree) → length ps ≡ branches → Stands ns at (listings ps) → r ≡ at + length (listings ps)
  pub adds : (ps : List Tree) → length ps ≡ branches → Stands ns at (listings ps) → Adds new then (WantsAt ps level (in_table old))

-- ---- rounds

-- the nodes and the row of offers are those of this plan
pub record Spells (ns : List Node) (row : SetRow) (p : Plan) : Type 0 where
  pub within : PlanWithin p
  pub stands : Stands ns 0 (listing p.tree)
  pub offers : row ≡ offer_row p.offers

-- the nodes are some plan's, whatever its head and its offers
abbrev pub IsPlan : List Node → Type 0
IsPlan ns = (row : SetRow) × (p : Plan) × Spells ns row p

-- a round makes r of old
abbrev pub Rounded : List Node → SetRow → SetRow → SetRow → Type 0
Rounded ns row old r = (p : Plan) → Spells ns row p → Adds old r (Wanted p (in_table old))

-- what rounds within an allowance come to: the count and the solution that are answered of the plan, or more of them are needed
abbrev pub Settles : List Node → SetRow → ℕ → Option (ℕ × Solution) → Type 0
Settles ns row allowance None = (p : Plan) → Spells ns row p → Exceeds p allowance
Settles ns row allowance (Some r) =
    (p : Plan) → Spells ns row p → Answered p allowance (record { refusal = no_refusal; head = p.head; count = r.0; solution = r.1 })
