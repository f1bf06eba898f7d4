-- The verdict that the checker computes is the one that the definitions declare: its tests decide, and it goes through the levels and channels in their
-- order. Assumes nothing.
use Prim.Native.Nat.{ℕ, zero, suc, ◌+◌, ◌<◌}
use mathlib.Core.Bool.{Bool, true, false, cond}
use mathlib.Core.Path.{◌≡◌, refl, subst}
use Rattle.std.proofs.Common.{arith, rules, tests}
use borrow.Author.Tests.{eqb-true, eqb-false}
use lib.Dec.{eqb}
use Rattle.limits.specs.Limits.{most_channels, levels, place_of}
use Rattle.sets.specs.Set.{Set, is_none, Decides}
use Rattle.sets.specs.Rows.{set_at}
use Rattle.sets.specs.inner.Compute.{shared, lowest}
use Rattle.sets.proofs.Minimum.{none_empty}
use Rattle.sets.proofs.Computed.{shared_members, lowest_least}
use Rattle.solving.specs.declared.Solution.{Solution}
use Rattle.solving.specs.declared.Solved.{Solved}
use Rattle.solving.specs.Solutions.{members_in}
use Rattle.judging.specs.declared.Verdict.{Verdict}
use Rattle.judging.specs.declared.Verdict.TheVariants.{Unjudged, No}
use Rattle.judging.specs.Verdict.{Lower}
use Rattle.judging.specs.Judge.{VerdictOn, VerdictBeside}
use Rattle.judging.specs.inner.Compute.{is_lower, verdict_from, verdict_on, verdict_to, verdict_of, verdict_for}
use Rattle.judging.proofs.Turns.{QuietFrom, QuietTo, QuietOn, on_more, to_more, to_skip, from_more, all_quiet, first_breach}
use Rattle.judging.proofs.Verdicts.{discreet_yes, breach_no}

lower_decided : (k g h : ℕ) → Decides (is_lower k g h) (Lower k g h)
lower_decided k g h = record { yes = λ e. search (rules, tests); no = λ e w. search (rules, tests) }

-- R holds of the verdict of so many turns, if each turn has it from what is known before the turn and from what it will be of the verdict later
module _ (R : Verdict → Type 0) (Known : ℕ → Type 0) (turn : ℕ → Verdict → Verdict) (count : ℕ)
    (step : (n : ℕ) → n < count → Known n → (later : Verdict) → (Known (n + 1) → R later) → R (turn n later)) (end : Verdict) (last : Known count → R end) where
  turns : (left n : ℕ) → n + left ≡ count → Known n → R (verdict_from turn left n end)
  unfolding verdict_from
  turns zero n e known = let e : n ≡ count = omega arith in last (subst Known e known)
  turns (suc left) n e known =
      let later = turns left (suc n) (omega arith) in
      let next : n + 1 ≡ suc n = omega arith in
      step n (omega arith) known _ (λ more. later (subst Known next more))

module _ (k : ℕ) (s : Solution) where
  abbrev Judged : Verdict → Type 0
  Judged = VerdictOn (Lower k) (members_in s)

  on_turn : (h g : ℕ) → h < levels → g < levels → Lower k g h → QuietFrom (Lower k) s h → QuietTo (Lower k) s h g
      → (c : ℕ) → c < most_channels → QuietOn (Lower k) s h g c → (later : Verdict) → (QuietOn (Lower k) s h g (c + 1) → Judged later) → Judged (verdict_on s h g c later)
  on_turn h g h_fits g_fits l from to c c_fits on later next = go (is_none handles) refl
    where
      handles : Set
      handles = shared (set_at s.outs (place_of h c)) (set_at s.ins (place_of g c))

      go : (b : Bool) → is_none handles ≡ b → Judged (cond b later (No (record { higher = h; lower = g; channel = c; handle = lowest handles })))
      go true t = next (on_more (Lower k) s h g c (shared_members _ _) (none_empty handles t) on)
      go false t = breach_no _ (first_breach (Lower k) s h g c _ h_fits g_fits c_fits (shared_members _ _) l (lowest_least handles t) from to on)

  to_turn : (h : ℕ) → h < levels → QuietFrom (Lower k) s h
      → (g : ℕ) → g < levels → QuietTo (Lower k) s h g → (later : Verdict) → (QuietTo (Lower k) s h (g + 1) → Judged later) → Judged (verdict_to k s h g later)
  to_turn h h_fits from g g_fits to later next = go (is_lower k g h) (lower_decided k g h)
    where
      go : (b : Bool) → Decides b (Lower k g h) → Judged (cond b (verdict_from (verdict_on s h g) most_channels 0 later) later)
      go true d =
          let last = λ (on : QuietOn (Lower k) s h g most_channels). next (to_more (Lower k) s h g on to) in
          turns Judged (QuietOn (Lower k) s h g) _ most_channels (on_turn h g h_fits g_fits (d.yes refl) from to) later last most_channels 0 refl (λ j l. absurd (omega arith))
      go false d = next (to_skip (Lower k) s h g (d.no refl) to)

  from_turn : (h : ℕ) → h < levels → QuietFrom (Lower k) s h → (later : Verdict) → (QuietFrom (Lower k) s (h + 1) → Judged later)
      → Judged (verdict_from (verdict_to k s h) levels 0 later)
  from_turn h h_fits from later next =
      let last = λ (to : QuietTo (Lower k) s h levels). next (from_more (Lower k) s h to from) in
      turns Judged (QuietTo (Lower k) s h) _ levels (to_turn h h_fits from) later last levels 0 refl (λ j l. absurd (omega arith))

  verdict_computed : Judged (verdict_of k s)
  verdict_computed =
      turns Judged (QuietFrom (Lower k) s) _ levels from_turn _ (λ from. discreet_yes (all_quiet (Lower k) s from)) levels 0 refl (λ j l. absurd (omega arith))

pub verdict_for_computed : (s : Solved) → VerdictBeside s (verdict_for s)
verdict_for_computed s = go (eqb s.refusal.number 0) refl
  where
    go : (b : Bool) → eqb s.refusal.number 0 ≡ b → VerdictBeside s (cond b (verdict_of s.head.top s.solution) Unjudged)
    go true t = record {
      refused = λ n. absurd (n (eqb-true s.refusal.number 0 t));
      answered = λ e. verdict_computed s.head.top s.solution;
    }
    go false t = record { refused = λ n. refl; answered = λ e. absurd (eqb-false s.refusal.number 0 t e) }
