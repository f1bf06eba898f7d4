-- What the answer means, in demand 3's words.
-- Assumes nothing.
use Rattle.std.specs.Prelude.{ℕ, ◌<◌, ◌↔◌}
use Rattle.limits.specs.Limits.{levels}
use Rattle.sets.specs.Rows.{HasAt}
use Rattle.reading.specs.Plan.{Plan}
use Rattle.solving.specs.Solutions.{in_set, Sets}
use Rattle.solving.specs.Least.{AcceptableIn}
use Rattle.reaching.specs.declared.Received.{Received}
use Rattle.reaching.specs.Reach.{ReceivedAt, channel_at}

-- a handle is not among a level's exactly if some acceptable solution has it in none of that level's in sets; where it is, every acceptable
-- solution has it in the in set of that level and of the channel named
pub record ReachDemand (plan : Plan) (r : Received) : Type 1 where
  pub never_exactly : (l : ℕ) → l < levels → (o : ℕ)
      → (HasAt r.handles l o → ⊥) ↔ ((t : Sets) × AcceptableIn plan t × (ReceivedAt t l o → ⊥))
  pub in_every : (l : ℕ) → l < levels → (o : ℕ) → HasAt r.handles l o
      → (t : Sets) → AcceptableIn plan t → t (in_set l (channel_at r.channels l o) o)
