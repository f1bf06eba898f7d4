-- The row of offers that reading gives holds just what the plan offers: channels ascend, so that each offer is laid where nothing stood, and none
-- hides another. Assumes nothing.
use Prim.Native.Nat.{ℕ, ◌+◌, ◌<◌, ◌≤◌}
use mathlib.Core.Path.{◌≡◌, subst, subst⁻¹}
use mathlib.Core.List.{List, [], ◌∷◌}
use mathlib.Core.Logic.{◌↔◌, ◌⊎◌, inl, inr, ⊎_elim}
use native.Mathlib.Omega.{arith}
use native.Mathlib.Decide.{ℕ_discrete}
use lib.ListN.{length, set, length-set}
use lib.Seq.{get_or-set_same, get_or-set_other}
use Rattle.limits.specs.Limits.{most_channels}
use Rattle.sets.specs.Set.{none, Has}
use Rattle.sets.specs.Rows.{SetRow, empty_row, HasAt}
use Rattle.sets.proofs.SameRows.{empty_length, none_at}
use Rattle.lines.specs.declared.Head.{Head}
use Rattle.lines.specs.declared.Offer.{Offer}
use Rattle.reading.specs.Plan.{Plan, laying, offer_row}
use Rattle.reading.specs.Promise.{OffersWithin, PlanWithin}
use Rattle.solving.specs.Clauses.{IsOffered}
use Rattle.solving.proofs.Ranges.{offered_below}

-- a row that holds just what is offered, on channels that it has a place for
pub record RowOf (offers : List Offer) (row : SetRow) : Type 0 where
  pub holds : (c o : ℕ) → HasAt row c o ↔ IsOffered offers c o
  pub short : (c o : ℕ) → IsOffered offers c o → c < most_channels

-- a set laid at a place where nothing stood
laid : (row : SetRow) (place new : ℕ) → place < length row → ((o : ℕ) → HasAt row place o → ⊥) → (c o : ℕ)
    → HasAt (set row place new) c o ↔ (HasAt row c o ⊎ ((c ≡ place) × Has new o))
laid row place new fits bare c o = go (ℕ_discrete c place)
  where
    go : Dec (c ≡ place) → HasAt (set row place new) c o ↔ (HasAt row c o ⊎ ((c ≡ place) × Has new o))
    go (yes q) =
        let here = get_or-set_same row place new none fits in (
          (λ h. inr (q, subst (λ s. Has s o) here (subst (λ k. HasAt (set row place new) k o) q h))),
          ⊎_elim
              (λ h. absurd (bare o (subst (λ k. HasAt row k o) q h)))
              (λ w. subst⁻¹ (λ k. HasAt (set row place new) k o) q (subst⁻¹ (λ s. Has s o) here w.1)),
        )
    go (no n) =
        let there = get_or-set_other row place c new none n in
        ((λ h. inl (subst (λ s. Has s o) there h)), ⊎_elim (subst⁻¹ (λ s. Has s o) there) (λ w. absurd (n w.0)))

laying_is : (h : Head) (least : ℕ) (row : SetRow) (offers : List Offer) → h.channels ≤ length row → OffersWithin h least offers
    → ((c o : ℕ) → least ≤ c → HasAt row c o → ⊥) → (c o : ℕ) → HasAt (laying row offers) c o ↔ (HasAt row c o ⊎ IsOffered offers c o)
laying_is h least row [] room g bare c o = (inl, ⊎_elim (λ x. x) absurd)
laying_is h least row (offer ∷ offers) room g bare c o =
    let place = offer.channel in
    let below = g.0.channel in
    let from = g.0.ascending in
    let first = laid row place offer.set (omega arith) (λ u. bare place u from) in
    let more = set row place offer.set in
    let behind : (d u : ℕ) → place + 1 ≤ d → HasAt more d u → ⊥ =
    λ d u l x. ⊎_elim (bare d u (omega arith)) (λ w. let e = w.0 in omega arith) ((first d u).0 x) in
    let rest = laying_is h (place + 1) more offers (omega (arith, length-set row place offer.set)) g.1 behind c o in (
      (λ x. ⊎_elim (λ y. ⊎_elim inl (λ w. inr (inl w)) ((first c o).0 y)) (λ w. inr (inr w)) (rest.0 x)),
      ⊎_elim (λ x. rest.1 (inl ((first c o).1 (inl x)))) (⊎_elim (λ w. rest.1 (inl ((first c o).1 (inr w)))) (λ w. rest.1 (inr w))),
    )

pub plan_row : (p : Plan) → PlanWithin p → RowOf p.offers (offer_row p.offers)
plan_row p g =
    let few = g.head.channels in
    let is = laying_is p.head 0 (empty_row most_channels) p.offers (omega (arith, empty_length most_channels)) g.offers
    (λ c o l. none_at most_channels c o) in
    record {
      holds = λ c o. ((λ x. ⊎_elim (λ y. absurd (none_at most_channels c o y)) (λ w. w) ((is c o).0 x)), λ w. (is c o).1 (inr w));
      short = λ c o w. let fits = (offered_below p.head 0 p.offers g.offers c o w).0 in omega arith;
    }
