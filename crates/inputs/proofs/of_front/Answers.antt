-- `of_front`: what is kept is as much of the front as the input has, also where that is all of it. Assumes nothing.
use Rattle.std.proofs.Common.{rules, take_all}
use Rattle.inputs.proofs.Answering.{front_answers}
use Rattle.inputs.proofs.of_front.Goals as goal

pub returns : goal.returns
returns c =
    let asked = c.asked_of.ensures in
    front_answers c.args.asked c.args.front.now _ c.args.size _ c.requires (search (rules, take_all)) asked
