-- Rounds on the table are the rounds of the definition: what the table holds after n of them is what `after` says, and two
-- tables are one where they hold the same, so a round that changes nothing is the first that adds nothing. Assumes nothing.
use Prim.Native.Nat.{ℕ, suc, ◌+◌, ◌-◌, ◌*◌, ◌/◌, ◌%◌, ◌<◌, ◌≤◌}
use mathlib.Core.Path.{◌≡◌, refl, sym, ap, subst, subst⁻¹, ◌∙◌}
use mathlib.Core.List.{List, [], ◌∷◌}
use mathlib.Core.Logic.Iff
use mathlib.Core.Logic.{◌↔◌, inl, inr, ⊎_elim}
use native.Mathlib.Omega.{arith}
use native.Mathlib.Decide.{ℕ_discrete, dec_lt}
use lib.ListN.{length, take, drop}
use Rattle.std.specs.Prelude.{Some}
use Rattle.std.proofs.lemmas.List.{get_or-take, get_or-drop, length-take, length-drop}
use Rattle.limits.specs.Limits.{most_channels, most_binders, most_depth, outermost, levels, place_of, level_sets}
use Rattle.limits.proofs.Places.{place_below, level_of, channel_of, place_back}
use Rattle.sets.specs.Set.{none, Has}
use Rattle.sets.specs.Rows.{SetRow, empty_row, set_at, HasAt, Copied}
use Rattle.sets.proofs.Members.{same_members}
use Rattle.sets.proofs.SameRows.{none_at, same_row, empty_length}
use Rattle.lines.specs.declared.Node.{Node}
use Rattle.reading.specs.Promise.{EachWithin, PlanWithin}
use Rattle.reading.specs.Plan.{Plan, no_refusal}
use Rattle.solving.specs.declared.Solution.{Solution}
use Rattle.solving.specs.Solutions.{Fact, binder_set, in_set, out_set, members_in}
use Rattle.solving.specs.Rounds.{Wanted, Settled, after, Count}
use Rattle.solving.specs.Least.{Least}
use Rattle.solving.specs.Solve.{Answered}
use Rattle.solving.specs.inner.Table.{ins_start, outs_start, table_size, ins_at, outs_at, in_table, Adds, Unpacked}
use Rattle.solving.specs.inner.Walk.{Stands, IsPlan, Ready}
use Rattle.solving.proofs.Acceptance.{wanted_grows}
use Rattle.solving.proofs.Leastness.{count_least, least_same}
use Rattle.solving.proofs.Ranges.{after_within}
use Rattle.solving.proofs.Walks.{alone}

-- ---- the round's walk may begin

pub round_ready : (ns : List Node) → IsPlan ns → Ready most_depth ns 0 (Some outermost) 1
round_ready ns w =
    let p = w.1 in
    let s = w.2 in
    record {
      head = p.head;
      fits = s.within.head;
      leveled = inr refl;
      trees = p.tree ∷ [];
      many = refl;
      planted = record {
        stands = subst⁻¹ (Stands ns 0) (alone p.tree) s.stands;
        deep = (s.within.shallow, tt);
        within = subst⁻¹ (EachWithin p.head) (alone p.tree) s.within.nodes;
      };
    }

-- ---- tables that hold the same are one

pub empty_table : (f : Fact) → in_table (empty_row table_size) f → ⊥
empty_table (binder_set b o) h = none_at table_size b o h.1
empty_table (in_set l c o) h = none_at table_size (ins_at l + c) o h.2
empty_table (out_set l c o) h = none_at table_size (outs_at l + c) o h.2

-- a level's sets from a start on, w to each of n levels
row_same : (w n : ℕ) (a b : SetRow) (start : ℕ)
    → ((l c o : ℕ) → l < n → c < w → HasAt a (start + l * w + c) o ↔ HasAt b (start + l * w + c) o)
    → (i : ℕ) → start ≤ i → i < start + n * w → set_at a i ≡ set_at b i
row_same w n a b start h i lo hi =
    let at : i - start < n * w = omega arith in
    let l = (i - start) / w in
    let c = (i - start) % w in
    let e : start + l * w + c ≡ i = omega (arith, place_back w n (i - start) at) in
    let same = same_members _ _ (λ o. h l c o (level_of w n (i - start) at) (channel_of w n (i - start) at)) in
    subst (λ k. set_at a k ≡ set_at b k) e same

module _ (a b : SetRow) (same : (f : Fact) → in_table a f ↔ in_table b f) where
  place_same : (i : ℕ) → i < table_size → Dec (i < ins_start) → Dec (i < outs_start) → set_at a i ≡ set_at b i
  place_same i h (yes q) e = same_members (set_at a i) (set_at b i) (λ o. (
    (λ x. ((same (binder_set i o)).0 (q, x)).1),
    (λ x. ((same (binder_set i o)).1 (q, x)).1),
  ))
  place_same i h (no n) (yes q) = row_same most_channels levels a b ins_start (λ l c o p r. (
    (λ x. ((same (in_set l c o)).0 (p, r, x)).2),
    (λ x. ((same (in_set l c o)).1 (p, r, x)).2),
  )) i (omega arith) (omega arith)
  place_same i h (no n) (no m) = row_same most_channels levels a b outs_start (λ l c o p r. (
    (λ x. ((same (out_set l c o)).0 (p, r, x)).2),
    (λ x. ((same (out_set l c o)).1 (p, r, x)).2),
  )) i (omega arith) (omega arith)

  pub table_same : length a ≡ table_size → length b ≡ table_size → a ≡ b
  table_same x y = same_row a b (x ∙ sym y) (λ i l. place_same i (omega arith) (dec_lt i ins_start) (dec_lt i outs_start))

-- ---- a table copied out to a solution

-- the places of a row from a start on, n of them
part_at : (t : SetRow) (start n i : ℕ) → i < n → set_at (take n (drop start t)) i ≡ set_at t (start + i)
part_at t start n i l = get_or-take n (drop start t) i none l ∙ get_or-drop start t i none

-- w sets to each of n levels, from a start on
row_copied : (w n start : ℕ) (t : SetRow) → (l c u : ℕ) → l < n → c < w
    → HasAt (take (n * w) (drop start t)) (l * w + c) u ↔ HasAt t (start + l * w + c) u
row_copied w n start t l c u l_fits c_fits =
    let at : start + (l * w + c) ≡ start + l * w + c = omega arith in
    let e = part_at t start (n * w) (l * w + c) (omega (arith, place_below w n l c l_fits c_fits)) ∙ ap (set_at t) at in
    (subst (λ s. Has s u) e, subst⁻¹ (λ s. Has s u) e)

-- what is copied out is that part
pub copied_part : (row t : SetRow) (start n : ℕ) (r : SetRow) → length row ≡ n → start + n ≤ length t → Copied row t start r
    → r ≡ take n (drop start t)
copied_part row t start n r long fits c =
    let sized : length r ≡ length (take n (drop start t)) = omega (arith, c.sized, length-take {A = ℕ}, length-drop {A = ℕ}) in
    same_row r (take n (drop start t)) sized (λ i l. c.copies i (omega (arith, c.sized)) ∙ sym (part_at t start n i (omega (arith, c.sized))))

abbrev parts : SetRow → Solution
parts t = record { binders = take most_binders t; ins = take level_sets (drop ins_start t); outs = take level_sets (drop outs_start t) }

pub unpacked : (t : SetRow) (s : Solution) → length t ≡ table_size → s.binders ≡ take most_binders t
    → s.ins ≡ take level_sets (drop ins_start t) → s.outs ≡ take level_sets (drop outs_start t) → Unpacked t s
unpacked t s z eb ei eo = subst⁻¹ (Unpacked t) (λ i. record { binders = eb i; ins = ei i; outs = eo i }) (record {
  same = same;
  sized = record {
    binders = omega (arith, length-take {A = ℕ});
    ins = omega (arith, length-take {A = ℕ}, length-drop {A = ℕ});
    outs = omega (arith, length-take {A = ℕ}, length-drop {A = ℕ});
  };
})
  where
    row : (start l c u : ℕ) → l < levels → c < most_channels
        → HasAt (take level_sets (drop start t)) (place_of l c) u ↔ HasAt t (start + l * most_channels + c) u
    row start = row_copied most_channels levels start t

    same : (f : Fact) → members_in (parts t) f ↔ in_table t f
    same (binder_set d u) =
        let e : d < most_binders → set_at (take most_binders t) d ≡ set_at t d = get_or-take most_binders t d none in
        ((λ h. (h.0, subst (λ s. Has s u) (e h.0) h.1)), λ h. (h.0, subst⁻¹ (λ s. Has s u) (e h.0) h.1))
    same (in_set l c u) =
        ((λ h. (h.0, h.1, (row ins_start l c u h.0 h.1).0 h.2)), (λ h. (h.0, h.1, (row ins_start l c u h.0 h.1).1 h.2)))
    same (out_set l c u) =
        ((λ h. (h.0, h.1, (row outs_start l c u h.0 h.1).0 h.2)), (λ h. (h.0, h.1, (row outs_start l c u h.0 h.1).1 h.2)))

-- ---- the table after some rounds

pub record Reached (p : Plan) (n : ℕ) (t : SetRow) : Type 0 where
  pub holds : (f : Fact) → after p n f ↔ in_table t f
  pub busy : (j : ℕ) → j < n → Settled p (after p j) → ⊥
  pub sized : length t ≡ table_size

pub reached_none : (p : Plan) → Reached p 0 (empty_row table_size)
reached_none p = record {
  holds = λ f. (absurd, λ x. absurd (empty_table f x));
  busy = λ j l s. omega arith;
  sized = empty_length table_size;
}

module _ (p : Plan) (n : ℕ) (t u : SetRow) (r : Reached p n t) (a : Adds t u (Wanted p (in_table t))) where
  -- what is wanted of the sets is wanted of the table
  wanted_same : (f : Fact) → Wanted p (after p n) f ↔ Wanted p (in_table t) f
  wanted_same f = (
    wanted_grows (after p n) (in_table t) (λ g. (r.holds g).0) p f,
    wanted_grows (in_table t) (after p n) (λ g. (r.holds g).1) p f,
  )

  pub settled_if : u ≡ t → Settled p (after p n)
  settled_if e f w = (r.holds f).1 (subst (λ k. in_table k f) e ((a.adds f).1 (inr ((wanted_same f).0 w))))

  pub same_if : length u ≡ table_size → Settled p (after p n) → u ≡ t
  same_if x s = table_same u t (λ f. (
    (λ h. ⊎_elim (λ z. z) (λ w. (r.holds f).0 (s f ((wanted_same f).1 w))) ((a.adds f).0 h)),
    (λ h. (a.adds f).1 (inl h)),
  )) x r.sized

  pub reached_more : (m : ℕ) → m ≡ suc n → length u ≡ table_size → (u ≡ t → ⊥) → Reached p m u
  reached_more m e x d = subst⁻¹ (λ k. Reached p k u) e (record { holds = grown; busy = busier; sized = x })
    where
      grown : (f : Fact) → after p (suc n) f ↔ in_table u f
      grown f = (
        (λ h. (a.adds f).1 (⊎_elim (λ z. inl ((r.holds f).0 z)) (λ w. inr ((wanted_same f).0 w)) h)),
        (λ h. ⊎_elim (λ z. inl ((r.holds f).1 z)) (λ w. inr ((wanted_same f).1 w)) ((a.adds f).0 h)),
      )

      busier : (j : ℕ) → j < suc n → Settled p (after p j) → ⊥
      busier j l s = go (ℕ_discrete j n)
        where
          go : Dec (j ≡ n) → ⊥
          go (yes q) = d (same_if x (subst (λ k. Settled p (after p k)) q s))
          go (no q) = r.busy j (omega arith) s

-- ---- the answers

pub answered_by : (p : Plan) (allowance n m : ℕ) (t : SetRow) (s : Solution) → PlanWithin p → Reached p n t → Settled p (after p n)
    → m ≡ suc n → m ≤ allowance → Unpacked t s → Answered p allowance (record { refusal = no_refusal; head = p.head; count = m; solution = s })
answered_by p allowance n m t s w e settled one_more allowed u = record {
  refusal = refl;
  head = refl;
  count = counted;
  allowed = allowed;
  least = record { acceptable = least.acceptable; least = λ t. least.least (members_in t) };
  within = λ f h. after_within p w n f ((members f).1 h);
  sized = u.sized;
}
  where
    counted : Count p m
    counted = record { earlier = n; is = one_more; settled = settled; first = e.busy }

    members : (f : Fact) → after p n f ↔ members_in s f
    members f = Iff.trans (e.holds f) (Iff.symm (u.same f))

    least : Least p (members_in s)
    least = least_same p (after p n) (members_in s) members (count_least p m counted)
