-- The walk of the one tree that stands at the root, which is at the outermost level; then the row of offers is merged into that level's
-- out sets.
-- Assumes nothing.
use mathlib.Core.Path.{subst⁻¹}
use Rattle.solving.proofs.OfferRows.{RowOf, plan_row}
use Rattle.solving.proofs.Settling.{round_ready}
use Rattle.solving.proofs.Steps.{offers_add}
use Rattle.solving.proofs.Tables.{adds_both}
use Rattle.solving.proofs.Walks.{whole_walked}
use Rattle.solving.proofs.rounds.round.Goals as goal

pub walk_node-requires : goal.walk_node-requires
walk_node-requires c = round_ready _ c.requires

pub returns : goal.returns
returns c = λ p s.
    let row = subst⁻¹ (RowOf p.offers) s.offers (plan_row p s.within) in
    let merge = c.merge.ensures.joins in
    adds_both (whole_walked _ _ _ _ _ _ c.walk_node.ensures p.tree s.stands)
    (offers_add _ c.every.ensures _ _ _ p.offers _ row c.outs_at.ensures merge) (λ f. ((λ w. w), λ w. w))
