-- What the checker computes is what the definitions say is received: the handles of the channels left are those at one of them. Assumes nothing.
use Prim.Native.Nat.{ℕ, zero, suc, ◌+◌, ◌<◌, ◌≤◌}
use mathlib.Core.Path.{◌≡◌, refl, subst}
use mathlib.Core.List.{List}
use mathlib.Core.Logic.{◌⊎◌, inl, inr, ⊎_elim}
use native.Mathlib.Decide.{ℕ_discrete}
use native.Mathlib.Omega.{arith}
use Rattle.std.proofs.lemmas.List.FromFn.{get_or-map-range_with_len, length-map-range_with_len}
use Rattle.limits.specs.Limits.{most_channels, levels, place_of, level_sets}
use Rattle.sets.specs.Set.{Set, Has, Members}
use Rattle.sets.specs.Rows.{SetRow, set_at, HasAt}
use Rattle.sets.proofs.Members.{has_none, has_or}
use Rattle.reading.specs.Plan.{plan_in}
use Rattle.solving.specs.inner.Compute.{solved_of}
use Rattle.solving.proofs.Demands.{computed as solved_computed}
use Rattle.reaching.specs.Reach.{Reaches}
use Rattle.reaching.specs.inner.Working.{HandlesIn, named_at, ChannelsIn}
use Rattle.reaching.specs.inner.Compute.{handles_from, handles_of, channels_of, received_of}
use Rattle.reaching.proofs.Whole.{reach_of}

-- ---- a row of in sets

module _ (ins : SetRow) where
  handles_from_lem : (l left n : ℕ) → Members (handles_from ins l left n) (λ o. (c : ℕ) × (n ≤ c) × (c < n + left) × HasAt ins (place_of l c) o)
  unfolding handles_from
  handles_from_lem l zero n = record { has = λ o. ((λ h. absurd (has_none o h)), λ w. absurd (omega (arith, w.1, w.2))) }
  handles_from_lem l (suc left) n = record {
    has = λ o.
        let either = has_or (set_at ins (place_of l n)) (handles_from ins l left (suc n)) o in
        let later = (handles_from_lem l left (suc n)).has o in (
          (λ h. ⊎_elim (λ here. (n, omega arith, omega arith, here)) (λ r. let w = later.0 r in (w.0, omega (arith, w.1), omega (arith, w.2), w.3)) (either.0 h)),
          (λ w. either.1 (placed o w later.1 (ℕ_discrete w.0 n))),
        );
  }
    where
      placed : (o : ℕ) (w : (c : ℕ) × (n ≤ c) × (c < n + suc left) × HasAt ins (place_of l c) o)
          → ((c : ℕ) × (suc n ≤ c) × (c < suc n + left) × HasAt ins (place_of l c) o → Has (handles_from ins l left (suc n)) o)
          → Dec (w.0 ≡ n) → HasAt ins (place_of l n) o ⊎ Has (handles_from ins l left (suc n)) o
      placed o w later (yes e) = inl (subst (λ c. HasAt ins (place_of l c) o) e w.3)
      placed o w later (no d) = inr (later (w.0, omega (arith, w.1), omega (arith, w.2), w.3))

  handles_computed : HandlesIn ins (handles_of ins)
  unfolding handles_of
  handles_computed = record {
    members = λ l fits. rw (get_or-map-range_with_len of_level 0 levels l l 0 fits (omega arith)) (record {
      has = λ o.
          let w = (handles_from_lem l most_channels 0).has o in
          ((λ h. let v = w.0 h in (v.0, (v.2, v.3))), λ v. w.1 (v.0, omega arith, v.1.0, v.1.1));
    });
    long = length-map-range_with_len of_level 0 levels;
  }
    where
      of_level : ℕ → Set
      of_level l = handles_from ins l most_channels 0

  channels_computed : ChannelsIn ins (channels_of ins)
  unfolding channels_of
  channels_computed = record {
    named = λ i fits. get_or-map-range_with_len (named_at ins) 0 level_sets i i 0 fits (omega arith);
    long = length-map-range_with_len (named_at ins) 0 level_sets;
  }

-- ---- the answer

-- the contract of `reach` admits the computed answer
pub computed : (text : List ℕ) (allowance : ℕ) → Reaches (plan_in text) allowance (received_of (plan_in text) allowance)
computed text allowance =
    let s = solved_of (plan_in text) allowance in
    let ins = s.solution.ins in
    record { solved = s; of_text = solved_computed text allowance; refusal = refl; reach = reach_of s.solution _ _ (handles_computed ins) (channels_computed ins) }
