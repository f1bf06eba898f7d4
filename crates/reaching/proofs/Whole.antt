-- What is read off a row of in sets: the handles of a level are those at one of its channels, and the first channel is the smallest that has the handle. So the
-- whole is what the solution says is received. Assumes nothing.
use Prim.Native.Nat.{ℕ, ◌+◌, ◌-◌, ◌*◌, ◌<◌, ◌≤◌}
use mathlib.Core.Bool.{Bool, true, false, not, cond}
use mathlib.Core.Path.{◌≡◌, refl, ap, subst, subst⁻¹, ◌∙◌}
use mathlib.Core.List.{List}
use native.Mathlib.Omega.{arith}
use native.Mathlib.Decide.{dec_lt}
use borrow.Author.Tests.{eqb-true, eqb-false, ltb-true, ltb-false, not-true, not-false}
use lib.Arith.{digits_div, digits_mod}
use lib.Dec.{ltb}
use lib.ListN.{length, get_or, drop}
use Rattle.std.specs.Prelude.{Option, Some, None, MatchOption, position, slice_range}
use Rattle.std.specs.List.{prefix_len}
use Rattle.std.proofs.lemmas.List.{get_or-take, get_or-drop, get_or_past, length-take}
use Rattle.std.proofs.lemmas.List.Sums.{prefix_len_passes, prefix_len_stops}
use Rattle.sets.proofs.Members.{has_none}
use Rattle.std.specs.Option.{unwrap_or, option_map_or}
use Rattle.limits.specs.Limits.{most_channels, levels, place_of}
use Rattle.limits.proofs.Places.{place_below}
use Rattle.sets.specs.Set.{Set, Has, is_member, Members}
use Rattle.sets.specs.Rows.{SetRow, set_at, Together}
use Rattle.solving.specs.declared.Solution.{Solution}
use Rattle.solving.specs.Solutions.{members_in}
use Rattle.reaching.specs.Reach.{ReceivedAt, FirstChannel, channel_at, ReachOf}
use Rattle.reaching.specs.inner.Working.{On, HandlesIn, FirstOn, first_on, first_from, ChannelsIn}

-- ---- a level's handles

pub level_members : (ins : SetRow) (l every r : ℕ) → Members every (λ c. c < most_channels) → Members r (Together ins (l * most_channels) (Has every))
    → Members r (λ o. (c : ℕ) × On ins l o c)
level_members ins l every r all m = record {
  has = λ o. (
    (λ h. let w = (m.has o).0 h in (w.0, ((all.has w.0).0 w.1, w.2))),
    (λ w. (m.has o).1 (w.0, (all.has w.0).1 w.1.0, w.1.1)),
  );
}

-- ---- the first channel

module _ (ins : SetRow) (l o : ℕ) where
  test : Set → Bool
  test s = not (is_member s o)

  -- from channel n on, all that are left
  module _ (left n : ℕ) (all : n + left ≡ most_channels) where
    part : SetRow
    part = slice_range ins (place_of l n) (place_of l n + left)

    -- that part of the row, and what of it has not the handle
    at : (c d : ℕ) → d ≡ n + c → c < left → get_or part c 0 ≡ set_at ins (place_of l d)
    unfolding part
    at c d e fits =
        let place : place_of l n + c ≡ place_of l d = omega arith in
        get_or-take _ (drop (place_of l n) ins) c 0 (omega arith) ∙ get_or-drop (place_of l n) ins c 0 ∙ ap (set_at ins) place

    before : (d : ℕ) → n ≤ d → d < n + prefix_len test part → On ins l o d → ⊥
    unfolding test
    before d from passed on =
        let none = not-true _ (prefix_len_passes test part (d - n) 0 (omega arith)) in
        eqb-false _ 1 none (subst⁻¹ (λ s. Has s o) (at (d - n) d (omega arith) (omega (arith, on.0))) on.1)

    past : (d : ℕ) → n + length part ≤ d → On ins l o d → ⊥
    past d end on =
        let has = subst⁻¹ (λ s. Has s o) (at (d - n) d (omega arith) (omega (arith, on.0))) on.1 in
        has_none o (subst (λ s. Has s o) (get_or_past part (d - n) 0 (omega arith)) has)

    none : length part ≤ prefix_len test part → (d : ℕ) → n ≤ d → On ins l o d → ⊥
    none long d from on = go (dec_lt d (n + prefix_len test part))
      where
        go : Dec (d < n + prefix_len test part) → ⊥
        go (yes h) = before d from h on
        go (no h) = past d (omega arith) on

    -- a channel is the smallest that has the handle, and none says that no channel has it
    abbrev First : Option ℕ → Type 0
    First r =
        MatchOption r ((d : ℕ) → n ≤ d → On ins l o d → ⊥) (λ c. On ins l o (n + c) × ((d : ℕ) → n ≤ d → d < n + c → On ins l o d → ⊥))

    first_tells : First (position (λ s. is_member s o) part)
    unfolding part test
    first_tells = go (ltb (prefix_len test part) (length part)) refl
      where
        go : (b : Bool) → ltb (prefix_len test part) (length part) ≡ b → First (cond b (Some (prefix_len test part)) None)
        go true t =
            let within = ltb-true (prefix_len test part) (length part) t in
            let fits : prefix_len test part < left = omega (arith, length-take {A = ℕ}) in
            let has = not-false _ (prefix_len_stops test part 0 within) in
            ((omega arith, subst (λ s. Has s o) (at _ _ refl fits) (eqb-true _ 1 has)), before)
        go false t = none (ltb-false _ _ t)

    -- where those passed have not the handle, it is the first of all
    pub first_from_lem : ((d : ℕ) → d < n → On ins l o d → ⊥) → FirstOn ins l o (first_from ins l o left n)
    unfolding part
    first_from_lem passed = go (position (λ s. is_member s o) part) first_tells
      where
        go : (r : Option ℕ) → First r → FirstOn ins l o (option_map_or (λ i. n + i) r 0)
        go None w = record { there = λ d on. absurd (w d (let sooner : d < n → ⊥ = λ h. passed d h on in omega arith) on); nowhere = λ _. refl }
        go (Some c) w = record {
          there = λ d on. (
            w.0,
            let from : d < n → ⊥ = λ h. passed d h on in
                let sooner : d < n + c → ⊥ = λ h. w.1 d (omega arith) h on in
                omega arith,
          );
          nowhere = λ n. absurd (n _ w.0);
        }

  -- so what is named, 0 for none
  pub first_on_lem : FirstOn ins l o (unwrap_or (first_on ins l o) 0)
  first_on_lem =
      let start : place_of l 0 ≡ l * most_channels = omega arith in
      let test = λ (s : Set). is_member s o in
      subst (FirstOn ins l o) (same (first_on ins l o))
      (subst (λ p. FirstOn ins l o (option_map_or (λ i. 0 + i) (position test (slice_range ins p (p + most_channels))) 0)) start
      (first_from_lem most_channels 0 refl (λ d h. absurd (omega arith))))
    where
      same : (r : Option ℕ) → option_map_or (λ i. 0 + i) r 0 ≡ unwrap_or r 0
      same None = refl
      same (Some c) = omega arith

  smallest : (d : ℕ) → On ins l o d → On ins l o (unwrap_or (first_on ins l o) 0) × (unwrap_or (first_on ins l o) 0 ≤ d)
  smallest = first_on_lem.there

  nowhere : ((d : ℕ) → On ins l o d → ⊥) → unwrap_or (first_on ins l o) 0 ≡ 0
  nowhere = first_on_lem.nowhere

-- ---- the whole

pub reach_of : (s : Solution) (handles : SetRow) (channels : List ℕ) → HandlesIn s.ins handles → ChannelsIn s.ins channels
    → ReachOf (members_in s) handles channels
reach_of s handles channels h c = record {
  among = λ l fits o. let m = (h.members l fits).has o in ((λ x. received l o fits (m.0 x)), λ w. m.1 (standing l o w));
  channel = λ l o l_fits o_fits w.
      let on = standing l o w in
      let found = smallest s.ins l o on.0 on.1 in
      subst⁻¹ (FirstChannel (members_in s) l o) (first l o l_fits o_fits) (record {
        received = (l_fits, found.0.0, found.0.1);
        first = λ d v. (smallest s.ins l o d (v.1, v.2)).1;
      });
  none = λ l o l_fits o_fits n. first l o l_fits o_fits ∙ nowhere s.ins l o (λ d on. n (d, (l_fits, on.0, on.1)));
  levels_long = h.long;
  places_long = c.long;
}
  where
    received : (l o : ℕ) → l < levels → (d : ℕ) × On s.ins l o d → ReceivedAt (members_in s) l o
    received l o fits w = (w.0, (fits, w.1.0, w.1.1))

    standing : (l o : ℕ) → ReceivedAt (members_in s) l o → (d : ℕ) × On s.ins l o d
    standing l o w = (w.0, (w.1.1, w.1.2))

    first : (l o : ℕ) → l < levels → o < most_channels → channel_at channels l o ≡ unwrap_or (first_on s.ins l o) 0
    first l o l_fits o_fits =
        rw (digits_div l o_fits, digits_mod l o_fits) at (c.named (place_of l o) (place_below most_channels levels l o l_fits o_fits))
