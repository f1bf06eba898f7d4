-- From a reading to a solution: a good reading's nodes are those of the plan's tree, so what the rounds answer is what the text's
-- outcome asks for. Only reading's promise is used. Assumes nothing.
use Prim.Native.Nat.{ℕ, ◌+◌}
use mathlib.Core.Path.{◌≡◌, refl, ap, subst⁻¹}
use mathlib.Core.List.{List, [], ◌∷◌, ◌++◌}
use mathlib.Core.Logic.{inl, inr}
use native.Mathlib.Omega.{arith}
use lib.ListN.{length, length-append}
use Rattle.std.proofs.Common.{append_assoc}
use Rattle.std.proofs.Math.Seq.{get_or-append_seam}
use Rattle.std.specs.Prelude.{Some, None, Ok, Err}
use Rattle.lines.specs.declared.Node.{Node}
use Rattle.lines.specs.declared.Node.TheVariants.{Nil}
use Rattle.reading.specs.declared.Reading.{Reading}
use Rattle.lines.specs.Values.{padded}
use Rattle.reading.specs.Plan.{Outcome, Plan, reading_of}
use Rattle.reading.specs.Promise.{PlanWithin, Kept}
use Rattle.reading.specs.Tree.{listing}
use Rattle.solving.specs.declared.Solution.{Solution}
use Rattle.solving.specs.declared.Solved.{Solved}
use Rattle.solving.specs.Solve.{Solves, Answered, refused_by, over_allowance}
use Rattle.solving.specs.inner.Walk.{Stands, Spells, IsPlan, Settles}

-- nodes stand behind those before them
stands_behind : (before xs rest : List Node) (i : ℕ) → i ≡ length before → Stands (before ++ (xs ++ rest)) i xs
stands_behind before [] rest i e = tt
stands_behind before (x ∷ xs) rest i e =
    let long = length-append before (x ∷ (xs ++ rest)) in
    let more = length-append before (x ∷ []) in
    let others = stands_behind (before ++ (x ∷ [])) xs rest (i + 1) (omega arith) in
    (omega arith, rw e (get_or-append_seam before x (xs ++ rest) Nil), rw append_assoc at others)

tree_stands : (p : Plan) → Stands (reading_of (Ok p)).nodes 0 (listing p.tree)
unfolding padded
tree_stands p = stands_behind [] (listing p.tree) _ 0 refl

plan_spells : (p : Plan) → PlanWithin p → Spells (reading_of (Ok p)).nodes (reading_of (Ok p)).offers p
plan_spells p w = record { within = w; stands = tree_stands p; offers = refl }

-- ---- by what the text reads as

-- a reading without a refusal is a plan's
pub plan_read : (o : Outcome Plan) (q : Reading) → Kept o → q ≡ reading_of o → q.refusal.number ≡ 0
    → (p : Plan) × (o ≡ Ok p) × (q ≡ reading_of (Ok p)) × Spells q.nodes q.offers p
plan_read (Err f) q k e z =
    let n = ap (λ (u : Reading). u.refusal.number) e in let l = k.0.0 in absurd (omega arith)
plan_read (Ok p) q k e z = (p, refl, e, subst⁻¹ (λ (u : Reading). Spells u.nodes u.offers p) e (plan_spells p k))

module _ (o : Outcome Plan) (q : Reading) (allowance : ℕ) (k : Kept o) (e : q ≡ reading_of o) (z : q.refusal.number ≡ 0) where
  pub plan_nodes : IsPlan q.nodes
  plan_nodes = let w = plan_read o q k e z in (q.offers, w.0, w.3)

  pub plan_exceeds : Settles q.nodes q.offers allowance None → Solves o allowance (refused_by over_allowance)
  plan_exceeds s =
      let w = plan_read o q k e z in
      subst⁻¹ (λ (r : Outcome Plan). Solves r allowance (refused_by over_allowance)) w.1 (inr (record { exceeds = s w.0 w.3; is = refl }))

  pub plan_answered : (n : ℕ) (s : Solution) → Settles q.nodes q.offers allowance (Some (n, s))
      → Solves o allowance (record { refusal = q.refusal; head = q.head; count = n; solution = s })
  plan_answered n s a =
      let w = plan_read o q k e z in
      let answer : Reading → Solved = λ u. record { refusal = u.refusal; head = u.head; count = n; solution = s } in
      subst⁻¹ (λ (r : Outcome Plan). Solves r allowance (answer q)) w.1
      (inl (subst⁻¹ (λ (u : Reading). Answered w.0 allowance (answer u)) w.2 (a w.0 w.3)))
