-- The count exists for every plan within its head's limits, and is bounded: every round but the last adds a membership, and there
-- are no more than the bound. Assumes nothing.
use Prim.Native.Nat.{ℕ, zero, suc, ◌+◌, ◌*◌, ◌<◌, ◌≤◌}
use mathlib.Core.Bool.{Bool, true, false}
use mathlib.Core.Path.{◌≡◌, refl, sym, subst}
use mathlib.Core.List.{List, []}
use mathlib.Core.Logic.Iff
use mathlib.Core.Logic.{◌↔◌, inl, inr}
use native.Mathlib.Omega.{arith}
use Rattle.std.specs.Prelude.{Some, None}
use native.Mathlib.Decide.{dec_le}
use native.Mathlib.Nat.{mul-le-mul}
use lib.Dec.{T}
use Rattle.limits.specs.Limits.{highest_level}
use Rattle.sets.proofs.Listed.{Mem}
use Rattle.lines.specs.declared.Head.{Head}
use Rattle.lines.specs.Promise.{HeadWithin}
use Rattle.reading.specs.Plan.{Plan}
use Rattle.reading.specs.Promise.{PlanWithin}
use Rattle.solving.specs.Solutions.{Fact}
use Rattle.solving.specs.Rounds.{Settled, after, Count, most_rounds, round_ceiling}
use Rattle.solving.specs.inner.Compute.{round_wanted, has_fact, add_all, Run, run}
use Rattle.solving.proofs.Computed.{has_is, one_more, RunIs, whole_run}
use Rattle.solving.proofs.Ranges.{after_within}
use Rattle.solving.proofs.Sizes.{Test, size, size_le, size_less}

-- the memberships after n rounds, listed
listed_after : Plan → ℕ → List Fact
listed_after p zero = []
listed_after p (suc n) = add_all (listed_after p n) (round_wanted p (listed_after p n))

listed_is : (p : Plan) (n : ℕ) (f : Fact) → after p n f ↔ Mem f (listed_after p n)
unfolding listed_after
listed_is p zero f = (absurd, absurd)
listed_is p (suc n) f = one_more p n (listed_after p n) (listed_is p n) f

test : Plan → ℕ → Test
test p n f = has_fact f (listed_after p n)

test_is : (p : Plan) (n : ℕ) (f : Fact) → T (test p n f) ↔ after p n f
unfolding test
test_is p n f = Iff.trans (has_is f (listed_after p n)) (Iff.symm (listed_is p n f))

module _ (p : Plan) (g : PlanWithin p) where
  -- where the size does not grow, the round adds nothing
  settled_of : (n : ℕ) → size p.head (test p (suc n)) ≤ size p.head (test p n) → Settled p (after p n)
  settled_of n le f w = go (test p n f) refl
    where
      keeps : (e : Fact) → T (test p n e) → T (test p (suc n) e)
      keeps e t = (test_is p (suc n) e).1 (inl ((test_is p n e).0 t))

      go : (b : Bool) → test p n f ≡ b → after p n f
      go true q = (test_is p n f).0 (subst T (sym q) tt)
      go false q =
          let there = (test_is p (suc n) f).1 (inr w) in
          let more = size_less p.head (test p n) (test p (suc n)) keeps f (after_within p g (suc n) f (inr w)) q there in
          absurd (omega arith)

  -- each round that adds something adds to the size
  grows : (n : ℕ) → ((j : ℕ) → j < n → Settled p (after p j) → ⊥) → n ≤ size p.head (test p n)
  grows zero busy = omega arith
  grows (suc n) busy = go (dec_le (size p.head (test p (suc n))) (size p.head (test p n))) (grows n (λ j l. busy j (omega arith)))
    where
      go : Dec (size p.head (test p (suc n)) ≤ size p.head (test p n)) → n ≤ size p.head (test p n) → suc n ≤ size p.head (test p (suc n))
      go (yes q) a = absurd (busy n (omega arith) (settled_of n q))
      go (no q) a = omega arith

  pub count_bound : (n : ℕ) → Count p n → n ≤ most_rounds p.head
  count_bound n c =
      let a = grows c.earlier c.first in
      let b = size_le p.head (test p c.earlier) in
      let d = c.is in
      omega arith

  pub count_exists : (n : ℕ) × Count p n
  count_exists = go (run p (most_rounds p.head) 0 []) (whole_run p (most_rounds p.head))
    where
      go : (r : Run) → RunIs p (most_rounds p.head) r → (n : ℕ) × Count p n
      go (Some (n, s)) w = (n, w.0)
      go None w =
          let a = grows (most_rounds p.head) w in
          let b = size_le p.head (test p (most_rounds p.head)) in
          absurd (omega arith)

-- no plan takes more rounds than that of the most channels, binders and levels
pub count_ceiling : (h : Head) → HeadWithin h → most_rounds h ≤ round_ceiling
count_ceiling h f =
    let C = h.channels in
    let a = mul-le-mul f.binders f.channels in
    let k : 2 * (h.top + 2) ≤ 2 * (highest_level + 2) = let t = f.top in omega arith in
    let b = mul-le-mul k f.channels in
    let d = mul-le-mul b f.channels in
    omega arith
