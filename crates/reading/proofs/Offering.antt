-- Offers read from a place, as the code holds them: what the next line says, then the rest, each laid in the row at its channel.
-- Assumes nothing.
use Prim.Native.Nat.{ℕ, ◌+◌}
use mathlib.Core.Path.{◌≡◌, refl, sym, ap, ◌∙◌, subst}
use mathlib.Core.List.{List, [], ◌∷◌}
use lib.ListN.{set}
use Rattle.std.specs.Prelude.{Option, Some, None, Result, Ok, Err}
use Rattle.lines.specs.declared.Head.{Head}
use Rattle.lines.specs.declared.Offer.{Offer}
use Rattle.lines.specs.declared.reasons.Reason.{Reason}
use Rattle.lines.specs.declared.reasons.Reason.TheVariants.{TextEnds}
use Rattle.reading.specs.declared.Refusal.{Refusal}
use Rattle.reading.specs.declared.offers.Offers.{Offers}
use Rattle.text.specs.Text.{Line, rest}
use Rattle.text.specs.Positions.{rest_at}
use Rattle.lines.specs.Frames.{number_of}
use Rattle.lines.specs.Line.{next_offer}
use Rattle.lines.specs.Promise.{Gives, OnLine, LineWhole, OfferWithin, NextWithin}
use Rattle.reading.specs.Plan.{Outcome, Place, refuse, and_then, Offered, offers_from, read_offers}
use Rattle.reading.specs.inner.Working.{StandsIn, Past, Laid, Lays}
use Rattle.lines.proofs.Promise.{offer_given, offer_whole}
use Rattle.reading.proofs.Growing.{ok_more, onward_past}

-- ---- the offers, by what the next line says

module _ (h : Head) (least line : ℕ) where
  no_line : next_offer h least [] ≡ Err TextEnds
  no_line = refl

  offers_faulty : (left : List Line) (reason : Reason) → next_offer h least left ≡ Err reason
      → read_offers h least line left ≡ refuse (record { line = line; left = left }) reason
  unfolding read_offers
  offers_faulty [] reason e = let same : reason ≡ TextEnds = cc no_line in rw same
  offers_faulty (l ∷ ls) reason e = rw e

  offers_fine : (left : List Line) (next : Option Offer) → next_offer h least left ≡ Ok next
      → read_offers h least line left
      ≡ offers_from (record { line = line; left = left }) (λ offer. read_offers h (offer.channel + 1) (line + 1) (rest left)) next
  unfolding read_offers
  offers_fine [] next e = cc no_line
  offers_fine (l ∷ ls) next e = rw e

-- ---- what `read_offers` returns, by what its calls gave

module _ (s : List ℕ) (h : Head) (least : ℕ) (state : Offers) where
  pub offers_refused : (reason : Reason) (f : Refusal) → Err reason ≡ next_offer h least (rest_at s state.cursor.at)
      → f ≡ record { number = number_of reason; line = state.cursor.line }
      → Lays s state (read_offers h least state.cursor.line (rest_at s state.cursor.at)) (Err f)
  offers_refused reason f bad made =
      rw (offers_faulty h least state.cursor.line (rest_at s state.cursor.at) reason (sym bad)) (ap Err made)

  pub offers_done : Ok None ≡ next_offer h least (rest_at s state.cursor.at) → StandsIn s state.cursor
      → Lays s state (read_offers h least state.cursor.line (rest_at s state.cursor.at)) (Ok state)
  offers_done none stands =
      rw (offers_fine h least state.cursor.line (rest_at s state.cursor.at) None (sym none))
      (record { stands = stands; place = refl; row = refl })

  module _ (offer : Offer) (good : Ok (Some offer) ≡ next_offer h least (rest_at s state.cursor.at)) where
    pub offer_there : LineWhole s state.cursor.at
    offer_there = offer_whole s state.cursor.at h least (Some offer) (sym good)

    pub offer_good : OfferWithin h least offer
    offer_good =
        let left = rest_at s state.cursor.at in
        (subst (Gives (OnLine left (NextWithin (OfferWithin h least)))) (sym good) (offer_given left h least)).0

    pub offers_on : (next : Offers) (r : Result Offers Refusal) → Past s state.cursor next.cursor → next.row ≡ set state.row offer.channel offer.set
        → Lays s next (read_offers h (offer.channel + 1) next.cursor.line (rest_at s next.cursor.at)) r
        → Lays s state (read_offers h least state.cursor.line (rest_at s state.cursor.at)) r
    offers_on next r past stored g =
        let onward = onward_past s state.cursor next.cursor offer_there.here past in
        let behind = subst (λ (p : Place). Lays s next (read_offers h (offer.channel + 1) p.line p.left) r) (sym onward) g in
        rw (offers_fine h least state.cursor.line (rest_at s state.cursor.at) (Some offer) (sym good))
        (go (read_offers h (offer.channel + 1) (state.cursor.line + 1) (rest (rest_at s state.cursor.at))) behind)
      where
        go : (o : Outcome Offered) → Lays s next o r
            → Lays s state (and_then o λ offered. Ok (record { offers = offer ∷ offered.offers; after = offered.after })) r
        go (Err f) w = w
        go (Ok n) w =
            let more : Offered = record { offers = offer ∷ n.offers; after = n.after } in
            ok_more (Laid s next n) (Laid s state more) (λ x v. record { stands = v.stands; place = v.place; row = v.row ∙ rw stored }) r w
