-- A tree read from a place, as the code holds it: what the next line says, then the branches, whose nodes are stored behind the node's own.
-- Assumes nothing.
use Prim.Native.Nat.{ℕ, zero, suc, ◌+◌, ◌-◌, ◌<◌}
use mathlib.Core.Path.{◌≡◌, refl, sym, ap, ◌∙◌}
use mathlib.Core.List.{List, [], ◌∷◌, ◌++◌}
use native.Mathlib.Numerals.{add-one, sub-one}
use native.Mathlib.Omega.{arith}
use lib.ListN.{length, set, length-append}
use lib.Seq.{sets}
use Rattle.std.specs.Prelude.{Result, Ok, Err, IsOkAnd}
use Rattle.lines.specs.declared.Head.{Head}
use Rattle.lines.specs.declared.Node.{Node}
use Rattle.lines.specs.declared.Node.TheVariants.{Nil, Silent, Send, Receive, Sum, Parallel, Restriction, Match, Replication, Bracket}
use Rattle.lines.specs.declared.reasons.Reason.{Reason}
use Rattle.reading.specs.declared.Refusal.{Refusal}
use Rattle.reading.specs.declared.cursor.Cursor.{Cursor}
use Rattle.reading.specs.declared.tree.State.{State}
use Rattle.text.specs.Text.{rest}
use Rattle.text.specs.Positions.{rest_at}
use Rattle.lines.specs.Frames.{number_of}
use Rattle.lines.specs.Scope.{Scope, inside}
use Rattle.lines.specs.Line.{next_node}
use Rattle.lines.specs.Promise.{NodeFits}
use Rattle.reading.specs.Tree.{Tree, silent, send, receive, sum, parallel, restriction, match, replication, bracket, branch_count, listing}
use Rattle.reading.specs.Plan.{Outcome, Place, onward, refuse, and_then, Grown, Reader, one, two, grow, read_tree}
use Rattle.reading.specs.inner.Working.{StandsIn, place_at, Past, Grew, Grows, GrowsOn, Branches}
use Rattle.text.proofs.Lists.{sets_append}
use Rattle.lines.proofs.Promise.{rest_split, node_fits}

-- ---- what was read

-- what holds of the state then holds of it with more
pub ok_more : {R E : Type 0} (P Q : R → Type 0) → ((x : R) → P x → Q x) → (r : Result R E) → IsOkAnd r P → IsOkAnd r Q
ok_more P Q more (Ok x) w = more x w
ok_more P Q more (Err e) w = w

-- ---- one line on

pub onward_past : (s : List ℕ) (cursor r : Cursor) → cursor.at < length s → Past s cursor r → onward (place_at s cursor) ≡ place_at s r
onward_past s cursor r h p = λ i. record { line = sym p.line i; left = lines i }
  where
    lines : rest (rest_at s cursor.at) ≡ rest_at s r.at
    lines = ap rest (rest_split s cursor.at h) ∙ ap (rest_at s) (sym p.at)

-- ---- the tree, by what the next line says

module _ (h : Head) (scope : Scope) (count : ℕ) (place : Place) where
  tree_faulty : (depth : ℕ) (reason : Reason) → next_node depth h scope count place.left ≡ Err reason
      → read_tree depth h scope count place ≡ refuse place reason
  unfolding read_tree
  tree_faulty zero reason e = rw e
  tree_faulty (suc depth) reason e = rw e

  tree_fine : (depth : ℕ) (node : Node) → (depth ≡ 0 → ⊥) → next_node depth h scope count place.left ≡ Ok node
      → read_tree depth h scope count place ≡ grow node (read_tree (depth - 1) h (inside node scope)) (count + 1) (onward place)
  unfolding read_tree
  tree_fine zero node n e = absurd (n refl)
  tree_fine (suc depth) node n e = rw (e, sub-one)

-- ---- a node with its branches

module _ (s : List ℕ) (nodes : List Node) (n : ℕ) (node : Node) (r : Result State Refusal) where
  -- one branch, where `front` is what is listed before it
  one_grows : (front : List Node) (f : Tree → Tree) → ((p : Tree) → listing (f p) ≡ node ∷ (front ++ listing p)) → (branch : Reader) (count : ℕ) (place : Place)
      → count ≡ (n + 1) + length front
      → Grows s (sets (set nodes n node) (n + 1) front) count (branch count place) r
      → Grows s nodes n (one f branch count place) r
  one_grows front f h branch count place e = go (branch count place)
    where
      go : (o : Outcome Grown) → Grows s (sets (set nodes n node) (n + 1) front) count o r
          → Grows s nodes n (and_then o λ g. Ok (record { tree = f g.tree; after = g.after })) r
      go (Err x) w = w
      go (Ok g) w =
          let grown : Grown = record { tree = f g.tree; after = g.after } in
          ok_more (Grew s (sets (set nodes n node) (n + 1) front) count g) (Grew s nodes n grown) (λ x v. record {
            stands = v.stands;
            place = v.place;
            count = v.count ∙ rw (h g.tree) (omega (arith, length-append front (listing g.tree)));
            nodes = v.nodes ∙ rw (h g.tree, sets_append, e, add-one);
          }) r w

  two_grows : (f : Tree → Tree → Tree) → ((p q : Tree) → listing (f p q) ≡ node ∷ (listing p ++ listing q)) → (branch : Reader) (place : Place)
      → GrowsOn s (set nodes n node) (n + 1) branch (branch (n + 1) place) r
      → Grows s nodes n (two f branch (n + 1) place) r
  two_grows f h branch place = go (branch (n + 1) place)
    where
      go : (o : Outcome Grown) → GrowsOn s (set nodes n node) (n + 1) branch o r
          → Grows s nodes n (and_then o λ g. one (f g.tree) branch ((n + 1) + length (listing g.tree)) g.after) r
      go (Err x) w = w
      go (Ok g) w =
          one_grows (listing g.tree) (f g.tree) (h g.tree) branch ((n + 1) + length (listing g.tree)) g.after refl w

module _ (s : List ℕ) (nodes : List Node) (n : ℕ) (branch : Reader) (st : State) (r : Result State Refusal)
    (counted : st.count ≡ n + 1) (stands : StandsIn s st.cursor) where
  one_on : (node : Node) (f : Tree → Tree) → ((p : Tree) → listing (f p) ≡ node ∷ listing p) → st.nodes ≡ set nodes n node
      → Branches 1 s st branch r → Grows s nodes n (one f branch (n + 1) (place_at s st.cursor)) r
  one_on node f h stored b =
      one_grows s nodes n node r [] f h branch (n + 1) (place_at s st.cursor) (omega arith) (rw (counted, stored) at b)

  two_on : (node : Node) (f : Tree → Tree → Tree) → ((p q : Tree) → listing (f p q) ≡ node ∷ (listing p ++ listing q)) → st.nodes ≡ set nodes n node
      → Branches 2 s st branch r → Grows s nodes n (two f branch (n + 1) (place_at s st.cursor)) r
  two_on node f h stored b = two_grows s nodes n node r f h branch (place_at s st.cursor) (rw (counted, stored) at b)

  grow_grows : (node : Node) → st.nodes ≡ set nodes n node
      → Branches (branch_count node) s st branch r → Grows s nodes n (grow node branch (n + 1) (place_at s st.cursor)) r
  unfolding grow listing
  grow_grows Nil stored b = rw b (record { stands = stands; place = refl; count = counted; nodes = stored })
  grow_grows Silent stored b = one_on Silent silent (λ p. refl) stored b
  grow_grows (Send x y) stored b = one_on (Send x y) (send x y) (λ p. refl) stored b
  grow_grows (Receive x y d) stored b = one_on (Receive x y d) (receive x y d) (λ p. refl) stored b
  grow_grows Sum stored b = two_on Sum sum (λ p q. refl) stored b
  grow_grows Parallel stored b = two_on Parallel parallel (λ p q. refl) stored b
  grow_grows (Restriction x c) stored b = one_on (Restriction x c) (restriction x c) (λ p. refl) stored b
  grow_grows (Match x y) stored b = one_on (Match x y) (match x y) (λ p. refl) stored b
  grow_grows Replication stored b = one_on Replication replication (λ p. refl) stored b
  grow_grows (Bracket l) stored b = one_on (Bracket l) (bracket l) (λ p. refl) stored b

-- ---- the branches, by their number and what the first gave

module _ (s : List ℕ) (st : State) (branch : Reader) where
  pub branches_none : (many : ℕ) → many ≡ 0 → Branches many s st branch (Ok st)
  branches_none zero e = refl
  branches_none (suc zero) e = absurd (omega arith)
  branches_none (suc (suc many)) e = absurd (omega arith)

  pub branches_stop : (many : ℕ) (f : Refusal) → (many ≡ 0 → ⊥)
      → Grows s st.nodes st.count (branch st.count (place_at s st.cursor)) (Err f) → Branches many s st branch (Err f)
  branches_stop zero f a g = absurd (a refl)
  branches_stop (suc zero) f a g = g
  branches_stop (suc (suc many)) f a g = go (branch st.count (place_at s st.cursor)) g
    where
      go : (o : Outcome Grown) → Grows s st.nodes st.count o (Err f) → GrowsOn s st.nodes st.count branch o (Err f)
      go (Err x) g = g
      go (Ok x) g = absurd g

  module _ (first : State) (g : Grows s st.nodes st.count (branch st.count (place_at s st.cursor)) (Ok first)) where
    pub branches_one : (many : ℕ) → many ≡ 1 → Branches many s st branch (Ok first)
    branches_one zero e = absurd (omega arith)
    branches_one (suc zero) e = g
    branches_one (suc (suc many)) e = absurd (omega arith)

    pub first_stands : StandsIn s first.cursor
    first_stands = go (branch st.count (place_at s st.cursor)) g
      where
        go : (o : Outcome Grown) → Grows s st.nodes st.count o (Ok first) → StandsIn s first.cursor
        go (Err f) e = cc
        go (Ok x) w = w.stands

    pub branches_on : (many : ℕ) → (many ≡ 0 → ⊥) → (many ≡ 1 → ⊥) → (r : Result State Refusal)
        → Grows s first.nodes first.count (branch first.count (place_at s first.cursor)) r → Branches many s st branch r
    branches_on zero a b r w = absurd (a refl)
    branches_on (suc zero) a b r w = absurd (b refl)
    branches_on (suc (suc many)) a b r w = go (branch st.count (place_at s st.cursor)) g
      where
        go : (o : Outcome Grown) → Grows s st.nodes st.count o (Ok first) → GrowsOn s st.nodes st.count branch o r
        go (Err f) e = cc
        go (Ok x) v = rw (← v.nodes, ← v.count, v.place) w

-- ---- what `read_node` returns, by what its calls gave

module _ (s : List ℕ) (h : Head) (scope : Scope) (depth : ℕ) (st : State) where
  pub node_refused : (reason : Reason) (f : Refusal) → Err reason ≡ next_node depth h scope st.count (rest_at s st.cursor.at)
      → f ≡ record { number = number_of reason; line = st.cursor.line }
      → Grows s st.nodes st.count (read_tree depth h scope st.count (place_at s st.cursor)) (Err f)
  node_refused reason f bad made =
      rw (tree_faulty h scope st.count (place_at s st.cursor) depth reason (sym bad)) (ap Err made)

  module _ (node : Node) (good : Ok node ≡ next_node depth h scope st.count (rest_at s st.cursor.at)) where
    pub node_found : NodeFits s st.cursor.at depth st.count
    node_found = node_fits s st.cursor.at depth h scope st.count node (sym good)

    pub node_grown : (more : State) (inner : Scope) (many : ℕ) (r : Result State Refusal)
        → Past s st.cursor more.cursor → StandsIn s more.cursor → more.count ≡ st.count + 1
        → more.nodes ≡ set st.nodes st.count node → inner ≡ inside node scope → many ≡ branch_count node
        → Branches many s more (read_tree (depth - 1) h inner) r
        → Grows s st.nodes st.count (read_tree depth h scope st.count (place_at s st.cursor)) r
    node_grown more inner many r past stands counted stored entered arity b =
        rw (
          tree_fine h scope st.count (place_at s st.cursor) depth node node_found.deep (sym good),
          onward_past s st.cursor more.cursor node_found.whole.here past,
        )
        (grow_grows s st.nodes st.count (read_tree (depth - 1) h (inside node scope)) more r counted stands node stored
        (rw (entered, arity) at b))
