-- `offer_in`: a frame of the offers has the six bytes that are read. Assumes nothing.
use mathlib.Core.Path.{◌≡◌, ap}
use native.Mathlib.Omega.{arith}
use borrow.Author.Rules.{rules}
use Rattle.lines.specs.declared.frames.Section.TheVariants.{OfferLines}
use Rattle.lines.specs.Frames.{rank}
use Rattle.lines.proofs.Table.{offer_long}
use Rattle.lines.proofs.rules.offer_in.Goals as goal

pub byte_in-requires : goal.byte_in-requires
byte_in-requires c =
    let own : c.args.frame.section ≡ OfferLines = search rules in
    omega (arith, offer_long _ _ c.requires (ap rank own))

pub byte_in-requires-2 : goal.byte_in-requires-2
byte_in-requires-2 c =
    let own : c.args.frame.section ≡ OfferLines = search rules in
    omega (arith, offer_long _ _ c.requires (ap rank own))

pub byte_in-requires-3 : goal.byte_in-requires-3
byte_in-requires-3 c =
    let own : c.args.frame.section ≡ OfferLines = search rules in
    omega (arith, offer_long _ _ c.requires (ap rank own))

pub byte_in-requires-4 : goal.byte_in-requires-4
byte_in-requires-4 c =
    let own : c.args.frame.section ≡ OfferLines = search rules in
    omega (arith, offer_long _ _ c.requires (ap rank own))

pub byte_in-requires-5 : goal.byte_in-requires-5
byte_in-requires-5 c =
    let own : c.args.frame.section ≡ OfferLines = search rules in
    omega (arith, offer_long _ _ c.requires (ap rank own))
