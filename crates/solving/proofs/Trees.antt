-- A tree as its root's node and its branches: what the listing, the depth and the wants of a tree are by these. The one place
-- beside the clauses that goes by the kinds of node. Assumes nothing.
use Prim.Native.Nat.{ℕ, suc, ◌-◌, ◌≤◌}
use mathlib.Core.Path.{◌≡◌, refl, sym, ap}
use mathlib.Core.List.{List, [], ◌∷◌, ◌++◌, append-nil}
use mathlib.Core.Logic.{◌↔◌, ◌⊎◌, inl, inr, ⊎_elim}
use native.Mathlib.Omega.{arith}
use lib.ListN.{length}
use Rattle.lines.specs.declared.Head.{Head}
use Rattle.lines.specs.declared.Node.{Node}
use Rattle.lines.specs.declared.Node.TheVariants.{Nil, Silent, Send, Receive, Sum, Parallel, Restriction, Match, Replication, Bracket}
use Rattle.lines.specs.Promise.{NodeWithin}
use Rattle.reading.specs.Tree.{branch_count, Tree, nil, silent, send, receive, sum, parallel, restriction, match, replication, bracket, listing, depth}
use Rattle.solving.specs.Solutions.{Fact, Sets, Level}
use Rattle.solving.specs.Rounds.{Wants}
use Rattle.solving.specs.inner.Walk.{Condition, Own, level_in, listings, EachDepth, SomeWants}

abbrev pub node_of : Tree → Node
node_of nil = Nil
node_of (silent p) = Silent
node_of (send x y p) = Send x y
node_of (receive x y b p) = Receive x y b
node_of (sum p q) = Sum
node_of (parallel p q) = Parallel
node_of (restriction x c p) = Restriction x c
node_of (match x y p) = Match x y
node_of (replication p) = Replication
node_of (bracket m p) = Bracket m

abbrev pub branches_of : Tree → List Tree
branches_of nil = []
branches_of (silent p) = p ∷ []
branches_of (send x y p) = p ∷ []
branches_of (receive x y b p) = p ∷ []
branches_of (sum p q) = p ∷ q ∷ []
branches_of (parallel p q) = p ∷ q ∷ []
branches_of (restriction x c p) = p ∷ []
branches_of (match x y p) = p ∷ []
branches_of (replication p) = p ∷ []
branches_of (bracket m p) = p ∷ []

pub tree_branches : (p : Tree) → length (branches_of p) ≡ branch_count (node_of p)
tree_branches nil = refl
tree_branches (silent p) = refl
tree_branches (send x y p) = refl
tree_branches (receive x y b p) = refl
tree_branches (sum p q) = refl
tree_branches (parallel p q) = refl
tree_branches (restriction x c p) = refl
tree_branches (match x y p) = refl
tree_branches (replication p) = refl
tree_branches (bracket m p) = refl

-- one branch listed, and two
one_listed : (n : Node) (p : Tree) → n ∷ listing p ≡ n ∷ listings (p ∷ [])
one_listed n p = ap (λ (l : List Node). n ∷ l) (sym (append-nil (listing p)))

two_listed : (n : Node) (p q : Tree) → n ∷ (listing p ++ listing q) ≡ n ∷ listings (p ∷ q ∷ [])
two_listed n p q = ap (λ (l : List Node). n ∷ (listing p ++ l)) (sym (append-nil (listing q)))

pub tree_listing : (p : Tree) → listing p ≡ node_of p ∷ listings (branches_of p)
unfolding listing
tree_listing nil = refl
tree_listing (silent p) = one_listed Silent p
tree_listing (send x y p) = one_listed (Send x y) p
tree_listing (receive x y b p) = one_listed (Receive x y b) p
tree_listing (sum p q) = two_listed Sum p q
tree_listing (parallel p q) = two_listed Parallel p q
tree_listing (restriction x c p) = one_listed (Restriction x c) p
tree_listing (match x y p) = one_listed (Match x y) p
tree_listing (replication p) = one_listed Replication p
tree_listing (bracket m p) = one_listed (Bracket m) p

pub tree_depth : (p : Tree) (d : ℕ) → depth p ≤ d → (e : ℕ) × (d ≡ suc e) × EachDepth e (branches_of p)
unfolding depth
tree_depth nil d h = (d - 1, omega arith, tt)
tree_depth (silent p) d h = (d - 1, omega arith, (omega arith, tt))
tree_depth (send x y p) d h = (d - 1, omega arith, (omega arith, tt))
tree_depth (receive x y b p) d h = (d - 1, omega arith, (omega arith, tt))
tree_depth (sum p q) d h = (d - 1, omega arith, (omega arith, (omega arith, tt)))
tree_depth (parallel p q) d h = (d - 1, omega arith, (omega arith, (omega arith, tt)))
tree_depth (restriction x c p) d h = (d - 1, omega arith, (omega arith, tt))
tree_depth (match x y p) d h = (d - 1, omega arith, (omega arith, tt))
tree_depth (replication p) d h = (d - 1, omega arith, (omega arith, tt))
tree_depth (bracket m p) d h = (d - 1, omega arith, (omega arith, tt))

-- wants of one branch and of two, where the node has no condition and wants nothing by itself
one_wants : {P : Type 0} → P ↔ (Unit {0} × (⊥ ⊎ (P ⊎ ⊥)))
one_wants = ((λ w. (tt, inr (inl w))), (λ w. ⊎_elim absurd (⊎_elim (λ x. x) absurd) w.1))

two_wants : {P Q : Type 0} → (P ⊎ Q) ↔ (Unit {0} × (⊥ ⊎ (P ⊎ (Q ⊎ ⊥))))
two_wants = (
  (λ w. (tt, inr (⊎_elim inl (λ y. inr (inl y)) w))),
  (λ w. ⊎_elim absurd (⊎_elim inl (⊎_elim inr absurd)) w.1),
)

-- where it has
own_wants : {C P W : Type 0} → (C × (P ⊎ W)) ↔ (C × (W ⊎ (P ⊎ ⊥)))
own_wants = (
  (λ w. (w.0, ⊎_elim (λ x. inr (inl x)) inl w.1)),
  (λ w. (w.0, ⊎_elim inr (⊎_elim inl absurd) w.1)),
)

pub tree_wants : (p : Tree) (l : ℕ) (s : Sets) (f : Fact)
    → Wants p l s f ↔ (Condition (node_of p) s × (Own (node_of p) l s f ⊎ SomeWants (branches_of p) (level_in (node_of p) l) s f))
tree_wants nil l s f = (absurd, λ w. ⊎_elim absurd absurd w.1)
tree_wants (silent p) l s f = one_wants
tree_wants (send x y p) l s f = own_wants
tree_wants (receive x y b p) l s f = own_wants
tree_wants (sum p q) l s f = two_wants
tree_wants (parallel p q) l s f = two_wants
tree_wants (restriction x c p) l s f = one_wants
tree_wants (match x y p) l s f =
    ((λ w. (w.0, inr (inl w.1))), λ w. (w.0, ⊎_elim absurd (⊎_elim (λ x. x) absurd) w.1))
tree_wants (replication p) l s f = one_wants
tree_wants (bracket m p) l s f = (
  (λ w. (tt, ⊎_elim (λ x. inr (inl x)) inl w)),
  (λ w. ⊎_elim inr (⊎_elim inl absurd) w.1),
)

-- branches stand at a level of the plan too
pub level_inside : (h : Head) (n : Node) (l : ℕ) → NodeWithin h n → Level h l → Level h (level_in n l)
level_inside h Nil l w v = v
level_inside h Silent l w v = v
level_inside h (Send x y) l w v = v
level_inside h (Receive x y b) l w v = v
level_inside h Sum l w v = v
level_inside h Parallel l w v = v
level_inside h (Restriction x c) l w v = v
level_inside h (Match x y) l w v = v
level_inside h Replication l w v = v
level_inside h (Bracket m) l w v = inl w

pub few_branches : (n : Node) → branch_count n ≤ 2
few_branches Nil = omega arith
few_branches Silent = omega arith
few_branches (Send x y) = omega arith
few_branches (Receive x y b) = omega arith
few_branches Sum = omega arith
few_branches Parallel = omega arith
few_branches (Restriction x c) = omega arith
few_branches (Match x y) = omega arith
few_branches Replication = omega arith
few_branches (Bracket m) = omega arith
