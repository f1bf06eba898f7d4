-- The reach sheet: its lines in order, and the whole as characters.
-- Assumes nothing.
use Rattle.std.specs.Prelude.{ℕ, zero, suc, ◌+◌, ◌/◌, ◌%◌, cond, ◌≡◌, List, [], ◌∷◌, ◌++◌, eqb, get_or}
use Rattle.limits.specs.Limits.{most_channels, level_sets}
use Rattle.putting.specs.Characters.{text, hex_line, hex_lines}
use Rattle.sets.specs.Set.{Set, is_member}
use Rattle.sets.specs.Rows.{SetRow, set_at}
use Rattle.reading.specs.Plan.{plan_in}
use Rattle.reaching.specs.declared.Received.{Received}
use Rattle.reaching.specs.Reach.{Reaches}
use Rattle.sheet.specs.Sheet.{refusal_line}

-- 23, level, handle, channel: of the place of a level and a handle, where the handle is among those of the level
abbrev pub line_for : Set → ℕ → ℕ → List (List ℕ)
line_for handles place channel =
    cond (is_member handles (place % most_channels)) ((0x23 ∷ place / most_channels ∷ place % most_channels ∷ channel ∷ []) ∷ []) []

-- those of so many places from a place on: by level, # the last, then by handle
unfoldable pub reach_lines : SetRow → List ℕ → ℕ → ℕ → List (List ℕ)
reach_lines handles channels zero place = []
reach_lines handles channels (suc left) place =
    line_for (set_at handles (place / most_channels)) place (get_or channels place 0) ++ reach_lines handles channels left (place + 1)

-- all of them and a phrase; a refusal's has only 3f, number and line, and its own
abbrev pub reach_sheet_of : Received → List ℕ
reach_sheet_of r =
    let complete = hex_lines (reach_lines r.handles r.channels level_sets 0) ++ text "reach complete\n" in
    let refused = hex_line (refusal_line r.refusal) ++ text "refused\n" in
    cond (eqb r.refusal.number 0) complete refused

-- the bytes that suffice for every reach sheet
abbrev pub longest_reach : ℕ
longest_reach = 2319

-- the reach sheet of a text within an allowance of rounds: that of what each level may receive
pub record ReachSheetFor (plan : List ℕ) (allowance : ℕ) (sheet : List ℕ) : Type 0 where
  pub received : Received
  pub reaches : Reaches (plan_in plan) allowance received
  pub is : sheet ≡ reach_sheet_of received
