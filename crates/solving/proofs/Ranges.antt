-- Only memberships of the plan are ever wanted: a plan within its head's limits names nothing else, clause by clause.
-- Assumes nothing.
use Prim.Native.Nat.{ℕ, zero, suc, ◌+◌, ◌<◌}
use mathlib.Core.Path.{refl, subst⁻¹}
use mathlib.Core.List.{List, [], ◌∷◌, ◌++◌}
use mathlib.Core.Logic.{inl, inr, ⊎_elim}
use native.Mathlib.Omega.{arith}
use Rattle.limits.specs.Limits.{outermost}
use Rattle.lines.specs.declared.Head.{Head}
use Rattle.lines.specs.declared.Marker.{Marker}
use Rattle.lines.specs.declared.Marker.TheVariants.{Channel, Binder}
use Rattle.lines.specs.declared.Node.{Node}
use Rattle.lines.specs.declared.Offer.{Offer}
use Rattle.lines.specs.Promise.{MarkerWithin}
use Rattle.reading.specs.Plan.{Plan}
use Rattle.reading.specs.Promise.{EachWithin, OffersWithin, PlanWithin}
use Rattle.reading.specs.Tree.{Tree, nil, silent, send, receive, sum, parallel, restriction, match, replication, bracket, listing}
use Rattle.solving.specs.Solutions.{Fact, binder_set, in_set, out_set, Sets, SetOf, Level, InRange, LiesWithin}
use Rattle.solving.specs.Clauses.{IsOffered}
use Rattle.solving.specs.Rounds.{SendWants, ReceiveWants, BracketWants, Wants, OfferWants, after}

pub within_split : (h : Head) (xs ys : List Node) → EachWithin h (xs ++ ys) → EachWithin h xs × EachWithin h ys
within_split h [] ys w = (tt, w)
within_split h (x ∷ xs) ys w = let v = within_split h xs ys w.1 in ((w.0, v.0), v.1)

module _ (h : Head) (s : Sets) (in_range : LiesWithin h s) where
  set_within : (x : Marker) (o : ℕ) → MarkerWithin h x → SetOf s x o → o < h.channels
  set_within (Channel c) o m e = omega arith
  set_within (Binder b) o m e = (in_range (binder_set b o) e).1

  send_within : (x y : Marker) (l : ℕ) (f : Fact) → MarkerWithin h x → MarkerWithin h y → Level h l → SendWants s x y l f → InRange h f
  send_within x y l (binder_set b o) mx my v w = absurd w
  send_within x y l (in_set m c o) mx my v w = absurd w
  send_within x y l (out_set m c o) mx my v w =
      (subst⁻¹ (Level h) w.0 v, set_within x c mx w.1, set_within y o my w.2)

  receive_within : (x : Marker) (b l : ℕ) (f : Fact) → MarkerWithin h x → b < h.binders → Level h l → ReceiveWants s x b l f → InRange h f
  receive_within x b l (binder_set d o) mx mb v w =
      (subst⁻¹ (λ n. n < h.binders) w.0 mb, (in_range (in_set l w.1.0 o) w.1.2).2)
  receive_within x b l (in_set m c o) mx mb v w =
      (subst⁻¹ (Level h) w.0 v, set_within x c mx w.1, (in_range (out_set w.2.0 c o) w.2.1).2)
  receive_within x b l (out_set m c o) mx mb v w = absurd w

  bracket_within : (m l : ℕ) (f : Fact) → Level h l → BracketWants s m l f → InRange h f
  bracket_within m l (binder_set b o) v w = absurd w
  bracket_within m l (in_set j c o) v w =
      let r = in_range (in_set m c o) w.1 in (subst⁻¹ (Level h) w.0 v, r.1, r.2)
  bracket_within m l (out_set j c o) v w =
      let r = in_range (out_set m c o) w.1 in (subst⁻¹ (Level h) w.0 v, r.1, r.2)

  wants_within : (p : Tree) (l : ℕ) → EachWithin h (listing p) → Level h l → (f : Fact) → Wants p l s f → InRange h f
  unfolding listing
  wants_within nil l g v f w = absurd w
  wants_within (silent p) l g v f w = wants_within p l g.1 v f w
  wants_within (restriction x c p) l g v f w = wants_within p l g.1 v f w
  wants_within (replication p) l g v f w = wants_within p l g.1 v f w
  wants_within (sum p q) l g v f w =
      let e = within_split h (listing p) (listing q) g.1 in
      ⊎_elim (wants_within p l e.0 v f) (wants_within q l e.1 v f) w
  wants_within (parallel p q) l g v f w =
      let e = within_split h (listing p) (listing q) g.1 in
      ⊎_elim (wants_within p l e.0 v f) (wants_within q l e.1 v f) w
  wants_within (send x y p) l g v f w =
      ⊎_elim (wants_within p l g.1 v f) (send_within x y l f g.0.0 g.0.1 v) w.1
  wants_within (receive x y b p) l g v f w =
      ⊎_elim (wants_within p l g.1 v f) (receive_within x b l f g.0.0 g.0.2 v) w.1
  wants_within (match x y p) l g v f w = wants_within p l g.1 v f w.1
  wants_within (bracket m p) l g v f w = ⊎_elim (wants_within p m g.1 (inl g.0) f) (bracket_within m l f v) w

-- what is offered is on a channel of the plan, and a handle of it
pub offered_below : (h : Head) (least : ℕ) (offers : List Offer) → OffersWithin h least offers → (c o : ℕ) → IsOffered offers c o
    → (c < h.channels) × (o < h.channels)
offered_below h least [] g c o w = absurd w
offered_below h least (offer ∷ offers) g c o w =
    ⊎_elim (λ e. (subst⁻¹ (λ k. k < h.channels) e.0 g.0.channel, g.0.handles o e.1)) (offered_below h (offer.channel + 1) offers g.1 c o) w

offered_within : (h : Head) (offers : List Offer) → OffersWithin h 0 offers → (f : Fact) → OfferWants offers f → InRange h f
offered_within h offers g (binder_set b o) w = absurd w
offered_within h offers g (in_set m c o) w = absurd w
offered_within h offers g (out_set m c o) w = let r = offered_below h 0 offers g c o w.1 in (inr w.0, r.0, r.1)

pub after_within : (p : Plan) → PlanWithin p → (n : ℕ) → LiesWithin p.head (after p n)
after_within p g zero f e = absurd e
after_within p g (suc n) f e =
    let h = p.head in
    let tree = wants_within h (after p n) (after_within p g n) p.tree outermost g.nodes (inr refl) f in
    ⊎_elim (after_within p g n f) (⊎_elim tree (offered_within h p.offers g.offers f)) e
