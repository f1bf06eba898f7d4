-- `first_fault`: the search through the tests gives the place of the first that is met. Assumes nothing.
use Prim.Native.Nat.{◌+◌}
use mathlib.Core.Path.{◌≡◌}
use Rattle.std.proofs.Common.{rules}
use Rattle.std.specs.Option.{option_map_or}
use Rattle.std.proofs.lemmas.Iterator.{YieldsList-from_slice}
use Rattle.std.proofs.lemmas.Iterator.Search.{position_from_yields_List}
use Rattle.byte_places.proofs.first_fault.Goals as goal

pub returns : goal.returns
returns c =
    let placed : c.map_or.result ≡ option_map_or (λ i. i + 2) c.position.result 0 = search rules in
    rw (← position_from_yields_List (λ t. t) _ _ _ c.position.ensures.ran (YieldsList-from_slice c.args.faults.now cc) (λ x b q k. search rules)) placed
