-- What each level may receive, as the checker computes it: on a row of in sets, and on what a text reads as. That it is what Reach.antt
-- says is proved in proofs/Computed.antt.
-- Assumes nothing.
use Rattle.std.specs.Prelude.{ℕ, zero, suc, List, map}
use Rattle.std.specs.List.{range_with_len}
use Rattle.limits.specs.Limits.{most_channels, levels, place_of, level_sets}
use Rattle.sets.specs.Set.{Set, none}
use Rattle.sets.specs.Rows.{SetRow, set_at}
use Rattle.sets.specs.inner.Compute.{joined}
use Rattle.reading.specs.Plan.{Outcome, Plan}
use Rattle.solving.specs.inner.Compute.{solved_of}
use Rattle.reaching.specs.declared.Received.{Received}
use Rattle.reaching.specs.inner.Working.{named_at}

-- the handles that level l receives at the channels from c on, as many as are left
unfoldable pub handles_from : SetRow → ℕ → ℕ → ℕ → Set
handles_from ins l zero c = none
handles_from ins l (suc left) c = joined (set_at ins (place_of l c)) (handles_from ins l left (suc c))

-- the handles of every level, and the channel of every place
unfoldable pub handles_of : SetRow → SetRow
handles_of ins = map (λ l. handles_from ins l most_channels 0) (range_with_len 0 levels)

unfoldable pub channels_of : SetRow → List ℕ
channels_of ins = map (named_at ins) (range_with_len 0 level_sets)

-- what is answered, by what the text reads as
abbrev pub received_of : Outcome Plan → ℕ → Received
received_of o allowance =
    let s = solved_of o allowance in
    record { refusal = s.refusal; handles = handles_of s.solution.ins; channels = channels_of s.solution.ins }
