-- `read_offers`: what is left of the text falls, by a line at least. Each return is one law over what the calls gave. Assumes nothing.
use mathlib.Core.Path.{refl, sym, ap, ◌∙◌}
use Rattle.std.specs.Prelude.{Ok}
use Rattle.reading.proofs.Offering.{offers_refused, offers_done, offer_there, offers_on}
use Rattle.reading.proofs.offers.+read_offers.Goals as goal

pub past-more-requires : goal.past-more-requires
past-more-requires t c =
    let found = sym (c.in-Ok-Some.is ∙ ap Ok c.in-Ok-Some.field-0-is) ∙ c.next_offer.ensures in
    (c.requires.0, (offer_there c.args.text.now c.args.head _ c.args.state _ found).ended)

pub returns-in-Err : goal.returns-in-Err
returns-in-Err t c =
    offers_refused c.args.text.now c.args.head _ c.args.state _ _ (sym c.in-Err.is ∙ c.next_offer.ensures) c.refuse.ensures

pub returns-in-Ok-None : goal.returns-in-Ok-None
returns-in-Ok-None t c =
    let over = sym (c.in-Ok-None.is ∙ ap Ok c.in-Ok-None.field-0-is) ∙ c.next_offer.ensures in
    offers_done c.args.text.now c.args.head _ c.args.state over c.requires.0

pub returns-in-Ok-Some : goal.returns-in-Ok-Some
returns-in-Ok-Some t c =
    let found = sym (c.in-Ok-Some.is ∙ ap Ok c.in-Ok-Some.field-0-is) ∙ c.next_offer.ensures in
    offers_on c.args.text.now c.args.head _ c.args.state _ found _ _ c.past-more.ensures.0 refl c.read_offers.ensures
