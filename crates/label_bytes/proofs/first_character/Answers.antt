-- `first_character`: the first byte says the size; where the bytes of that size are no character of a label, none stands there. Assumes nothing.
use Rattle.std.proofs.Common.{◌≡◌, ◌∙◌, ◌&&◌, get_or, drop, arith}
use Rattle.std.proofs.lemmas.List.{take_rest}
use Rattle.std.proofs.lemmas.Slice.{between_from_start}
use Rattle.std.proofs.lemmas.Bool.Decides.{nat_tests}
use Rattle.label_bytes.specs.Characters.{is_in}
use Rattle.label_bytes.specs.inner.Working.{range_of, are_tails}
use Rattle.label_bytes.proofs.Found.{begun_out, begun_no, begun_one, begun_few, begun_many}
use Rattle.label_bytes.proofs.first_character.Goals as goal

pub returns-in_err-first : goal.returns-in_err-first
returns-in_err-first c = rw c.from_residual.ensures (begun_out _ c.in_err-first.ensures.value)

pub returns-in_err-lead_of : goal.returns-in_err-lead_of
returns-in_err-lead_of c = rw c.from_residual-in_err-lead_of.ensures (begun_no _ _ c.in_ok-first.ensures.value c.in_err-lead_of.ensures)

pub returns-in_err-character-in-More : goal.returns-in_err-character-in-More
returns-in_err-character-in-More c =
    let leads = rw c.in-More.is at c.in_ok-lead_of.ensures in
    let few = c.in_err-character-in-More.ensures.lookup in
    rw c.from_residual-in_err-character-in-More.ensures
    (begun_few _ _ c.in_ok-first.ensures.value c.in-More.size c.in-More.second leads (omega (arith, few)))

pub returns-in-One : goal.returns-in-One
returns-in-One c = begun_one _ _ c.in_ok-first.ensures.value (rw c.in-One.is at c.in_ok-lead_of.ensures)

pub returns-after-contains : goal.returns-after-contains
returns-after-contains c =
    let second = c.in-More.second in
    let leads = rw c.in-More.is at c.in_ok-lead_of.ensures in
    let character = c.in_ok-character-in-More.character.now in
    let lookup = c.in_ok-character-in-More.ensures.lookup in
    let fits : c.if-contains.fits ≡ (is_in (range_of second) (get_or character 1 0) && are_tails (drop 2 character)) =
    grind (arith, nat_tests, take_rest character 2, c.contains.ensures.cases) in
    rw (c.then_some.ensures, fits)
    (begun_many _ _ c.in_ok-first.ensures.value c.in-More.size second leads character (lookup.0.2 ∙ between_from_start _ _) (omega (arith, lookup)))
