-- Document 01, 'Plan text': the branches of a node, the tree of a plan, and its nodes in prefix order.
-- Assumes nothing.
use Rattle.std.specs.Prelude.{ℕ, suc, max, List, [], ◌∷◌, ◌++◌}
use Rattle.lines.specs.declared.Marker.{Marker}
use Rattle.lines.specs.declared.Node.{Node}
use Rattle.lines.specs.declared.Node.TheVariants.{Nil, Silent, Send, Receive, Sum, Parallel, Restriction, Match, Replication, Bracket}

-- how many branches a node has
abbrev pub branch_count : Node → ℕ
branch_count Nil = 0
branch_count Silent = 1
branch_count (Send x y) = 1
branch_count (Receive x y b) = 1
branch_count Sum = 2
branch_count Parallel = 2
branch_count (Restriction x c) = 1
branch_count (Match x y) = 1
branch_count Replication = 1
branch_count (Bracket l) = 1

-- a plan's tree. A receive has its channel's marker, the name that it binds and its binder; a restriction its name and its channel
pub data Tree : Type 0 where
  nil : Tree
  silent : Tree → Tree
  send : Marker → Marker → Tree → Tree
  receive : Marker → ℕ → ℕ → Tree → Tree
  sum : Tree → Tree → Tree
  parallel : Tree → Tree → Tree
  restriction : ℕ → ℕ → Tree → Tree
  match : Marker → Marker → Tree → Tree
  replication : Tree → Tree
  bracket : ℕ → Tree → Tree

-- its nodes in text order: a node, then its branches, first before second
unfoldable pub listing : Tree → List Node
listing nil = Nil ∷ []
listing (silent p) = Silent ∷ listing p
listing (send x y p) = Send x y ∷ listing p
listing (receive x y b p) = Receive x y b ∷ listing p
listing (sum p q) = Sum ∷ (listing p ++ listing q)
listing (parallel p q) = Parallel ∷ (listing p ++ listing q)
listing (restriction x c p) = Restriction x c ∷ listing p
listing (match x y p) = Match x y ∷ listing p
listing (replication p) = Replication ∷ listing p
listing (bracket l p) = Bracket l ∷ listing p

-- its depth: the root has depth 1
unfoldable pub depth : Tree → ℕ
depth nil = 1
depth (silent p) = suc (depth p)
depth (send x y p) = suc (depth p)
depth (receive x y b p) = suc (depth p)
depth (sum p q) = suc (max (depth p) (depth q))
depth (parallel p q) = suc (max (depth p) (depth q))
depth (restriction x c p) = suc (depth p)
depth (match x y p) = suc (depth p)
depth (replication p) = suc (depth p)
depth (bracket l p) = suc (depth p)
