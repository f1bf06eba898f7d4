-- `reach`: read off the in sets of what `solve` answers. Assumes nothing.
use mathlib.Core.Path.{refl}
use Rattle.reaching.proofs.Whole.{reach_of}
use Rattle.reaching.proofs.reach.Goals as goal

pub returns : goal.returns
returns c =
    let solved = c.solve-solved in
    record { solved = solved.result; of_text = solved.ensures; refusal = refl; reach = reach_of _ _ _ c.handles_in.ensures c.channels_in.ensures }
