-- What the contract of `reach` comes to: it admits one answer, and what the answer means. The least solution is in every acceptable one, so that
-- what it receives every one receives, and it receives as little as any. Assumes nothing.
use Prim.Native.Nat.{ℕ, ◌/◌, ◌%◌, ◌<◌, ◌≤◌}
use mathlib.Core.Path.{◌≡◌, sym, ap, subst, subst⁻¹, ◌∙◌}
use mathlib.Core.List.{List}
use mathlib.Core.Logic.Iff
use mathlib.Core.Logic.{◌⊎◌, inl, inr}
use native.Mathlib.Omega.{arith}
use lib.ListN.{get_or}
use lib.Seq.{ext_get_or}
use Rattle.std.specs.Prelude.{Ok}
use Rattle.limits.specs.Limits.{most_channels, levels, level_sets}
use Rattle.limits.proofs.Places.{level_of, channel_of, place_back}
use Rattle.sets.specs.Set.{bit, Has}
use Rattle.sets.specs.Rows.{SetRow, set_at}
use Rattle.sets.proofs.Bits.{has?, zero_not_has}
use Rattle.sets.proofs.Members.{same_members}
use Rattle.sets.proofs.SameRows.{same_row}
use Rattle.reading.specs.Plan.{Plan, plan_in}
use Rattle.reading.specs.Promise.{Kept}
use Rattle.reading.proofs.Promise.{kept}
use Rattle.solving.specs.declared.Solved.{Solved}
use Rattle.solving.specs.Solutions.{in_set, Sets, members_in}
use Rattle.solving.specs.Rounds.{Count}
use Rattle.solving.specs.Demand.{LeastAnswer}
use Rattle.solving.proofs.Leastness.{count_unique}
use Rattle.solving.proofs.Demands.{once as solved_once, demand_2}
use Rattle.reaching.specs.declared.Received.{Received}
use Rattle.reaching.specs.Reach.{ReceivedAt, channel_at, ReachOf, Reaches}
use Rattle.reaching.specs.Demand.{ReachDemand}

-- ---- any two answers that the contract admits are equal

module _ (s : Sets) {a b : SetRow} {p q : List ℕ} (x : ReachOf s a p) (y : ReachOf s b q) where
  handles_once : a ≡ b
  handles_once = same_row a b (x.levels_long ∙ sym y.levels_long) (λ l fits.
      let level : l < levels = omega (arith, x.levels_long) in
      same_members (set_at a l) (set_at b l) (λ o. Iff.trans (x.among l level o) (Iff.symm (y.among l level o))))

  channel_once : (l o : ℕ) → l < levels → o < most_channels → channel_at p l o ≡ channel_at q l o
  channel_once l o l_fits o_fits = go (has? (set_at a l) o)
    where
      go : (bit (set_at a l) o ≡ 0) ⊎ Has (set_at a l) o → channel_at p l o ≡ channel_at q l o
      go (inl e) =
          let none : ReceivedAt s l o → ⊥ = λ w. zero_not_has (set_at a l) o e ((x.among l l_fits o).1 w) in
          x.none l o l_fits o_fits none ∙ sym (y.none l o l_fits o_fits none)
      go (inr h) =
          let w = (x.among l l_fits o).0 h in
          let c = x.channel l o l_fits o_fits w in
          let d = y.channel l o l_fits o_fits w in
          let below = c.first (channel_at q l o) d.received in
          let above = d.first (channel_at p l o) c.received in
          omega arith

  channels_once : p ≡ q
  channels_once = ext_get_or 0 p q (x.places_long ∙ sym y.places_long) (λ i fits.
      let at : i < level_sets = omega (arith, x.places_long) in
      let same = channel_once (i / most_channels) (i % most_channels) (level_of most_channels levels i at) (channel_of most_channels levels i at) in
      subst (λ k. get_or p k 0 ≡ get_or q k 0) (place_back most_channels levels i at) same)

pub once : (text : List ℕ) (allowance : ℕ) (r q : Received) → Reaches (plan_in text) allowance r → Reaches (plan_in text) allowance q → r ≡ q
once text allowance r q a b = λ i. record { refusal = refusals i; handles = handles_once _ a.reach there i; channels = channels_once _ a.reach there i }
  where
    same : a.solved ≡ b.solved
    same = solved_once text allowance a.solved b.solved a.of_text b.of_text

    refusals : r.refusal ≡ q.refusal
    refusals = a.refusal ∙ (ap (λ s. s.refusal) same ∙ sym b.refusal)

    there : ReachOf (members_in a.solved.solution) q.handles q.channels
    there = subst⁻¹ (λ (s : Solved). ReachOf (members_in s.solution) q.handles q.channels) same b.reach

-- ---- what the answer means

least_reach : (plan : Plan) (n : ℕ) (s : Solved) (r : Received) → plan.head.channels ≤ most_channels → LeastAnswer plan n s → ReachOf (members_in s.solution) r.handles r.channels
    → ReachDemand plan r
least_reach plan n s r few a x = record {
  never_exactly = λ l fits o. (
    (λ never. (sets, record { within = a.within; acceptable = a.least.acceptable }, λ w. never ((x.among l fits o).1 w))),
    (λ w h. let some = (x.among l fits o).0 h in w.2 (some.0, a.least.least w.0 w.1.acceptable (in_set l some.0 o) some.1)),
  );
  in_every = λ l fits o h t w.
      let some = (x.among l fits o).0 h in
      let handle = (a.within (in_set l some.0 o) some.1).2 in
      let channel = x.channel l o fits (omega arith) some in
      a.least.least t w.acceptable (in_set l _ o) channel.received;
}
  where
    sets : Sets
    sets = members_in s.solution

-- for every text that reads as a plan, and every allowance that its count is within
pub reach_demand : (text : List ℕ) (allowance : ℕ) (r : Received) → Reaches (plan_in text) allowance r
    → (plan : Plan) → plan_in text ≡ Ok plan → (n : ℕ) → Count plan n → n ≤ allowance → ReachDemand plan r
reach_demand text allowance r w plan e n counts enough =
    let demanded = (demand_2 text allowance w.solved w.of_text).plans plan e in
    let within = subst (λ m. m ≤ allowance) (count_unique plan n demanded.count counts demanded.counts) enough in
    let few = (subst Kept e (kept text)).head.channels in
    least_reach plan demanded.count w.solved r few (demanded.answered within) w.reach
