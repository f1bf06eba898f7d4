-- The walk's promises put together: of a node from its clause and its branches, of branches from the first and the others.
-- Assumes nothing.
use Prim.Native.Nat.{ℕ, suc, ◌+◌, ◌-◌, ◌<◌}
use mathlib.Core.Path.{◌≡◌, refl, sym, ap, subst, subst⁻¹, ◌∙◌}
use mathlib.Core.List.{List, [], ◌∷◌, ◌++◌, append-nil}
use mathlib.Core.Logic.{◌↔◌, ◌≢◌, ◌⊎◌, inl, inr, ⊎_elim}
use native.Mathlib.Omega.{arith}
use lib.ListN.{length, length-append}
use Rattle.std.specs.Prelude.{Option, Some, None, IfSome}
use Rattle.sets.specs.Rows.{SetRow}
use Rattle.lines.specs.declared.Head.{Head}
use Rattle.lines.specs.declared.Node.{Node}
use Rattle.lines.specs.Promise.{NodeWithin}
use Rattle.reading.specs.Promise.{EachWithin}
use Rattle.reading.specs.Tree.{branch_count, Tree, listing}
use Rattle.solving.specs.Solutions.{Fact, Level}
use Rattle.solving.specs.Rounds.{Wants}
use Rattle.solving.specs.inner.Table.{in_table, Adds}
use Rattle.solving.specs.inner.Walk.{Able, Stepped, node_at, Stands, listings, EachDepth, SomeWants, WantsAt, Planted, Ready, Walked}
use Rattle.solving.proofs.Ranges.{within_split}
use Rattle.solving.proofs.Tables.{adds_both, adds_same}
use Rattle.solving.proofs.Trees.{node_of, branches_of, tree_branches, tree_listing, tree_depth, tree_wants, level_inside}

-- ---- nodes that stand in a row

pub stands_split : (ns : List Node) (i : ℕ) (xs ys : List Node) → Stands ns i (xs ++ ys) → Stands ns i xs × Stands ns (i + length xs) ys
stands_split ns i [] ys h = (tt, subst (λ k. Stands ns k ys) (let e : i ≡ i + 0 = omega arith in e) h)
stands_split ns i (x ∷ xs) ys h =
    let w = stands_split ns (i + 1) xs ys h.2 in
    ((h.0, h.1, w.0), subst (λ k. Stands ns k ys) (let e : (i + 1) + length xs ≡ i + suc (length xs) = omega arith in e) w.1)

-- a tree alone
pub alone : (p : Tree) → listings (p ∷ []) ≡ listing p
alone p = append-nil (listing p)

-- ---- a tree's root and branches stand where the tree stands

pub record Rooted (h : Head) (d : ℕ) (ns : List Node) (at : ℕ) (p : Tree) : Type 0 where
  pub here : at < length ns
  pub node : node_at ns at ≡ node_of p
  pub deeper : d ≢ 0
  pub within : NodeWithin h (node_of p)
  pub branches : Planted h (d - 1) ns (at + 1) (branches_of p)

root_stands : (ns : List Node) (at : ℕ) (p : Tree) → Stands ns at (listings (p ∷ []))
    → (at < length ns) × (node_at ns at ≡ node_of p) × Stands ns (at + 1) (listings (branches_of p))
root_stands ns at p h = subst (Stands ns at) (alone p ∙ tree_listing p) h

pub rooted : (h : Head) (d : ℕ) (ns : List Node) (at : ℕ) (p : Tree) → Planted h d ns at (p ∷ []) → Rooted h d ns at p
rooted h d ns at p w =
    let s = root_stands ns at p w.stands in
    let v : EachWithin h (node_of p ∷ listings (branches_of p)) = subst (EachWithin h) (alone p ∙ tree_listing p) w.within in
    let e = tree_depth p d w.deep.0 in
    let q = e.1 in
    record {
      here = s.0;
      node = s.1;
      deeper = λ z. omega arith;
      within = v.0;
      branches = record {
        stands = s.2;
        deep = subst (λ k. EachDepth k (branches_of p)) (let z : e.0 ≡ d - 1 = omega arith in z) e.2;
        within = v.1;
      };
    }

-- the one tree of a walk
pub the_tree : (ps : List Tree) → length ps ≡ 1 → (p : Tree) × (ps ≡ p ∷ [])
the_tree [] e = absurd (omega arith)
the_tree (p ∷ []) e = (p, refl)
the_tree (p ∷ q ∷ ps) e = absurd (omega arith)

pub ready_root : (d : ℕ) (ns : List Node) (at : ℕ) (l : Option ℕ) (r : Ready d ns at l 1) → (p : Tree) × Rooted r.head d ns at p
ready_root d ns at l r =
    let t = the_tree r.trees r.many in
    (t.0, rooted r.head d ns at t.0 (subst (Planted r.head d ns at) t.1 r.planted))

-- ---- what is asked of the calls

pub clause_able : (d : ℕ) (ns : List Node) (at : ℕ) (l : Option ℕ) → Ready d ns at l 1 → Able (node_at ns at) l
clause_able d ns at l r =
    let w = ready_root d ns at l r in
    record { head = r.head; fits = r.fits; leveled = r.leveled; within = subst⁻¹ (NodeWithin r.head) w.1.node w.1.within }

-- branches are at a level of the plan, where they have one
inner_leveled : (h : Head) (n : Node) (l inner : Option ℕ) (old new then : SetRow) → NodeWithin h n → IfSome l (Level h)
    → Stepped n l old new inner then → IfSome inner (Level h)
inner_leveled h n None None old new then w v s = tt
inner_leveled h n None (Some k) old new then w v s = absurd (let e = s.0 in cc)
inner_leveled h n (Some l) None old new then w v s = tt
inner_leveled h n (Some l) (Some k) old new then w v s = subst⁻¹ (Level h) s.0 (level_inside h n l w v)

pub branches_ready : (d : ℕ) (ns : List Node) (at : ℕ) (l inner : Option ℕ) (old new then : SetRow) (b : ℕ) → Ready d ns at l 1
    → Stepped (node_at ns at) l old new inner then → b ≡ branch_count (node_at ns at) → Ready (d - 1) ns (at + 1) inner b
branches_ready d ns at l inner old new then b r st many =
    let w = ready_root d ns at l r in
    let n = w.1.node in
    record {
      head = r.head;
      fits = r.fits;
      leveled = inner_leveled r.head (node_at ns at) l inner old new then (subst⁻¹ (NodeWithin r.head) n w.1.within) r.leveled st;
      trees = branches_of w.0;
      many = tree_branches w.0 ∙ ap branch_count (sym n) ∙ sym many;
      planted = w.1.branches;
    }

-- the first of some trees, and the others
pub first_ready : (d : ℕ) (ns : List Node) (at : ℕ) (l : Option ℕ) (b k : ℕ) → b ≡ suc k → Ready d ns at l b → Ready d ns at l 1
first_ready d ns at l b k more r = go r.trees r.many r.planted
  where
    go : (ps : List Tree) → length ps ≡ b → Planted r.head d ns at ps → Ready d ns at l 1
    go [] e w = absurd (omega arith)
    go (p ∷ ps) e w = record {
      head = r.head;
      fits = r.fits;
      leveled = r.leveled;
      trees = p ∷ [];
      many = refl;
      planted = record {
        stands = subst⁻¹ (Stands ns at) (alone p) (stands_split ns at (listing p) (listings ps) w.stands).0;
        deep = (w.deep.0, tt);
        within = subst⁻¹ (EachWithin r.head) (alone p) (within_split r.head (listing p) (listings ps) w.within).0;
      };
    }

pub others_ready : (d : ℕ) (ns : List Node) (at : ℕ) (l : Option ℕ) (b k : ℕ) (old new : SetRow) (next : ℕ) (then : SetRow) → b ≡ suc k
    → Ready d ns at l b → Walked ns at l 1 old new next then → Ready d ns next l k
others_ready d ns at l b k old new next then more r v = go r.trees r.many r.planted
  where
    go : (ps : List Tree) → length ps ≡ b → Planted r.head d ns at ps → Ready d ns next l k
    go [] e w = absurd (omega arith)
    go (p ∷ ps) e w =
        let s = stands_split ns at (listing p) (listings ps) w.stands in
        let n = v.next (p ∷ []) refl (subst⁻¹ (Stands ns at) (alone p) s.0) ∙ ap (λ (xs : List Node). at + length xs) (alone p) in
        record {
          head = r.head;
          fits = r.fits;
          leveled = r.leveled;
          trees = ps;
          many = omega arith;
          planted = record {
            stands = subst⁻¹ (λ k. Stands ns k (listings ps)) n s.1;
            deep = w.deep.1;
            within = (within_split r.head (listing p) (listings ps) w.within).1;
          };
        }

-- ---- what is promised

-- what one tree and others want
first_wants : (p : Tree) (ps : List Tree) (l : Option ℕ) (old : SetRow) (f : Fact)
    → WantsAt (p ∷ ps) l (in_table old) f ↔ (WantsAt (p ∷ []) l (in_table old) f ⊎ WantsAt ps l (in_table old) f)
first_wants p ps None old f = (absurd, ⊎_elim absurd absurd)
first_wants p ps (Some l) old f =
    (⊎_elim (λ w. inl (inl w)) inr, ⊎_elim (⊎_elim inl absurd) inr)

pub walked_more : (ns : List Node) (at : ℕ) (l : Option ℕ) (b k : ℕ) (old new : SetRow) (m : ℕ) (mid : SetRow) (r : ℕ) (then : SetRow) → b ≡ suc k
    → Walked ns at l 1 old new m mid → Walked ns m l k old mid r then → Walked ns at l b old new r then
walked_more ns at l b k old new m mid r then more first others = record { next = next; adds = adds }
  where
    -- the first tree's walk ends where the others stand
    ends : (p : Tree) (ps : List Tree) → Stands ns at (listings (p ∷ ps)) → (m ≡ at + length (listing p)) × Stands ns m (listings ps)
    ends p ps h =
        let s = stands_split ns at (listing p) (listings ps) h in
        let n = first.next (p ∷ []) refl (subst⁻¹ (Stands ns at) (alone p) s.0) ∙ ap (λ (xs : List Node). at + length xs) (alone p) in
        (n, subst⁻¹ (λ k. Stands ns k (listings ps)) n s.1)

    next : (ps : List Tree) → length ps ≡ b → Stands ns at (listings ps) → r ≡ at + length (listings ps)
    next [] e h = absurd (omega arith)
    next (p ∷ ps) e h =
        let w = ends p ps h in
        let q = w.0 in
        let o = others.next ps (omega arith) w.1 in
        let a = length-append (listing p) (listings ps) in
        omega arith

    adds : (ps : List Tree) → length ps ≡ b → Stands ns at (listings ps) → Adds new then (WantsAt ps l (in_table old))
    adds [] e h = absurd (omega arith)
    adds (p ∷ ps) e h =
        let s = stands_split ns at (listing p) (listings ps) h in
        adds_both (first.adds (p ∷ []) refl (subst⁻¹ (Stands ns at) (alone p) s.0)) (others.adds ps (omega arith) (ends p ps h).1) (first_wants p ps l old)

-- what a tree wants is what its root does and what its branches do
root_wants : (p : Tree) (l inner : Option ℕ) (old new mid then : SetRow) → Stepped (node_of p) l old new inner mid
    → Adds mid then (WantsAt (branches_of p) inner (in_table old)) → Adds new then (WantsAt (p ∷ []) l (in_table old))
root_wants p None None old new mid then s b = subst (λ k. Adds k then (λ f. ⊥)) s.1 b
root_wants p None (Some k) old new mid then s b = absurd (let e = s.0 in cc)
root_wants p (Some l) None old new mid then s b =
    adds_same (subst (λ k. Adds k then (λ f. ⊥)) s.1 b) (λ f. ((λ w. s.0 ((tree_wants p l (in_table old) f).0 (⊎_elim (λ x. x) absurd w)).0), absurd))
root_wants p (Some l) (Some k) old new mid then s b =
    adds_both s.2 (subst (λ m. Adds mid then (SomeWants (branches_of p) m (in_table old))) s.0 b) (λ f.
    let e = tree_wants p l (in_table old) f in
    ((λ w. (e.0 (⊎_elim (λ x. x) absurd w)).1), λ w. inl (e.1 (s.1, w))))

pub walked_node : (ns : List Node) (at : ℕ) (l inner : Option ℕ) (b : ℕ) (old new mid : SetRow) (r : ℕ) (then : SetRow)
    → Stepped (node_at ns at) l old new inner mid → b ≡ branch_count (node_at ns at) → Walked ns (at + 1) inner b old mid r then
    → Walked ns at l 1 old new r then
walked_node ns at l inner b old new mid r then st many br = record { next = next; adds = adds }
  where
    -- the branches of the tree that stands here
    branches : (p : Tree) → node_at ns at ≡ node_of p → length (branches_of p) ≡ b
    branches p n = tree_branches p ∙ ap branch_count (sym n) ∙ sym many

    next : (ps : List Tree) → length ps ≡ 1 → Stands ns at (listings ps) → r ≡ at + length (listings ps)
    next [] e h = absurd (omega arith)
    next (p ∷ q ∷ ps) e h = absurd (omega arith)
    next (p ∷ []) e h =
        let w = root_stands ns at p h in
        let b = br.next (branches_of p) (branches p w.1) w.2 in
        let k = ap (λ (xs : List Node). length xs) (alone p ∙ tree_listing p) in
        omega arith

    adds : (ps : List Tree) → length ps ≡ 1 → Stands ns at (listings ps) → Adds new then (WantsAt ps l (in_table old))
    adds [] e h = absurd (omega arith)
    adds (p ∷ q ∷ ps) e h = absurd (omega arith)
    adds (p ∷ []) e h =
        let w = root_stands ns at p h in
        root_wants p l inner old new mid then (subst (λ (n : Node). Stepped n l old new inner mid) w.1 st) (br.adds (branches_of p) (branches p w.1) w.2)

-- a walk of the whole tree from the root
pub whole_walked : (ns : List Node) (l : ℕ) (old new : SetRow) (r : ℕ) (then : SetRow) → Walked ns 0 (Some l) 1 old new r then
    → (p : Tree) → Stands ns 0 (listing p) → Adds new then (Wants p l (in_table old))
whole_walked ns l old new r then w p h = adds_same
    (w.adds (p ∷ []) refl (subst⁻¹ (Stands ns 0) (alone p) h)) (λ f. (inl, ⊎_elim (λ x. x) absurd))
