-- The reach sheet: the loop that puts its lines, its length, and that a text has one, which is computed. Assumes nothing.
use Prim.Native.Nat.{ℕ, zero, suc, ◌+◌, ◌-◌, ◌*◌, ◌/◌, ◌%◌, ◌<◌, ◌≤◌}
use mathlib.Core.Bool.{Bool, true, false, cond}
use mathlib.Core.Path.{◌≡◌, refl, sym, ap, subst, ◌∙◌}
use mathlib.Core.List.{List, [], ◌∷◌, ◌++◌, append-nil}
use native.Mathlib.Omega.{arith}
use borrow.Author.Tests.{eq-eqb}
use lib.Dec.{eqb}
use lib.ListN.{length, get_or, replicate, length-append}
use Rattle.limits.specs.Limits.{most_channels, level_sets}
use Rattle.putting.specs.Characters.{text, hex_line, hex_lines}
use Rattle.putting.specs.Put.{Room, Put}
use Rattle.putting.proofs.Putting.{Left, left_none, left_put, left_room_first}
use Rattle.putting.proofs.Characters.{line_length, lines_append}
use Rattle.sets.specs.Set.{Set, is_member}
use Rattle.sets.specs.Rows.{SetRow, set_at}
use Rattle.reading.specs.Plan.{plan_in}
use Rattle.reaching.specs.declared.Received.{Received}
use Rattle.reaching.specs.Reach.{Reaches}
use Rattle.reaching.proofs.Demands.{once as received_once}
use Rattle.reaching.proofs.Computed.{computed as received_computed}
use Rattle.sheet.specs.declared.made.Sheet.{Sheet}
use Rattle.sheet.specs.Sheet.{refusal_line}
use Rattle.sheet.specs.Write.{longest_sheet, IsWhole}
use Rattle.sheet.proofs.Writing.{OneSheet, OneWritten, OneWhole, one_written, one_whole, whole_put}
use Rattle.reach_sheet.specs.ReachSheet.{line_for, reach_lines, reach_sheet_of, longest_reach, ReachSheetFor}
use Rattle.reach_sheet.specs.inner.Compute.{reach_sheet_for}

-- ---- a place's line

pub line_there : (s : Set) (place channel : ℕ) → is_member s (place % most_channels) ≡ true
    → hex_lines (line_for s place channel) ≡ hex_line (0x23 ∷ place / most_channels ∷ place % most_channels ∷ channel ∷ [])
unfolding hex_lines
line_there s place channel e = simp e (append-nil (hex_line (0x23 ∷ place / most_channels ∷ place % most_channels ∷ channel ∷ [])))

pub line_none : (s : Set) (place channel : ℕ) → is_member s (place % most_channels) ≡ false → hex_lines (line_for s place channel) ≡ []
unfolding hex_lines
line_none s place channel e = simp e

line_most : (s : Set) (place channel : ℕ) → length (hex_lines (line_for s place channel)) ≤ 9
unfolding hex_lines
line_most s place channel = go (is_member s (place % most_channels))
  where
    bytes : List ℕ
    bytes = 0x23 ∷ place / most_channels ∷ place % most_channels ∷ channel ∷ []

    go : (b : Bool) → length (hex_lines (cond b (bytes ∷ []) [])) ≤ 9
    go true = omega (arith, length-append (hex_line bytes) [], line_length bytes)
    go false = omega arith

lines_most : (handles : SetRow) (channels : List ℕ) (left place : ℕ) → length (hex_lines (reach_lines handles channels left place)) ≤ 9 * left
unfolding reach_lines hex_lines
lines_most handles channels zero place = omega arith
lines_most handles channels (suc left) place =
    let set = set_at handles (place / most_channels) in
    let channel = get_or channels place 0 in
    let rest = reach_lines handles channels left (place + 1) in
    let parts = ap length (lines_append (line_for set place channel) rest) in
    let both = length-append (hex_lines (line_for set place channel)) (hex_lines rest) in
    omega (arith, line_most set place channel, lines_most handles channels left (place + 1))

-- ---- the loop that puts the lines

module _ {before : List ℕ} {at : ℕ} {xs buffer : List ℕ} {next : ℕ} (handles : SetRow) (channels : List ℕ) (place : ℕ)
    (l : Left before at xs buffer next (hex_lines (reach_lines handles channels (level_sets - place) place))) where
  line : List (List ℕ)
  line = line_for (set_at handles (place / most_channels)) place (get_or channels place 0)

  later : List (List ℕ)
  later = reach_lines handles channels (level_sets - (place + 1)) (place + 1)

  module _ (h : place < level_sets) where
    first_left : Left before at xs buffer next (hex_lines line ++ hex_lines later)
    unfolding line later reach_lines
    first_left =
        let count : level_sets - place ≡ suc (level_sets - (place + 1)) = omega arith in
        let split = ap (λ n. hex_lines (reach_lines handles channels n place)) count ∙ lines_append line later in
        subst (Left before at xs buffer next) split l

    pub place_room : Room before at xs → Room buffer next (hex_lines (line_for (set_at handles (place / most_channels)) place (get_or channels place 0)))
    unfolding line
    place_room room = left_room_first _ _ room first_left

    pub place_step : {after : List ℕ} {behind : ℕ} → Put buffer next (hex_lines (line_for (set_at handles (place / most_channels)) place (get_or channels place 0))) after behind
        → Left before at xs after behind (hex_lines (reach_lines handles channels (level_sets - (place + 1)) (place + 1)))
    unfolding line later
    place_step p = left_put _ _ first_left p

  pub places_end : level_sets ≤ place → Put before at xs buffer next
  unfolding reach_lines hex_lines
  places_end h =
      let none : level_sets - place ≡ 0 = omega arith in
      left_none (subst (λ n. Left before at xs buffer next (hex_lines (reach_lines handles channels n place))) none l)

-- ---- the sheet

pub complete_is : (r : Received) → r.refusal.number ≡ 0 → reach_sheet_of r ≡ hex_lines (reach_lines r.handles r.channels level_sets 0) ++ text "reach complete\n"
complete_is r e = simp (eq-eqb _ _ e)

-- 2,319 bytes always suffice
pub reach_most : (r : Received) → length (reach_sheet_of r) ≤ longest_reach
reach_most r = go (eqb r.refusal.number 0)
  where
    go : (b : Bool)
        → length (cond b (hex_lines (reach_lines r.handles r.channels level_sets 0) ++ text "reach complete\n") (hex_line (refusal_line r.refusal) ++ text "refused\n")) ≤ longest_reach
    go true = omega (arith, length-append (hex_lines (reach_lines r.handles r.channels level_sets 0)) (text "reach complete\n"), lines_most r.handles r.channels level_sets 0)
    go false = omega (arith, length-append (hex_line (refusal_line r.refusal)) (text "refused\n"), line_length (refusal_line r.refusal))

module _ {plan : List ℕ} {allowance : ℕ} {received : Received} (reaches : Reaches (plan_in plan) allowance received) where
  its_sheet : ReachSheetFor plan allowance (reach_sheet_of received)
  its_sheet = record { received = received; reaches = reaches; is = refl }

  -- put into a blank array, it is whole
  pub reach_whole : (r : Sheet) → Put (replicate longest_sheet 0) 0 (reach_sheet_of received) r.bytes r.size → IsWhole ReachSheetFor plan allowance r
  reach_whole r p = whole_put (reach_sheet_of received) r (omega (arith, reach_most received)) its_sheet p

-- a text has one reach sheet within an allowance
pub reach_sheet_once : OneSheet ReachSheetFor
reach_sheet_once plan allowance s t a b =
    a.is ∙ (ap reach_sheet_of (received_once plan allowance a.received b.received a.reaches b.reaches) ∙ sym b.is)

-- it is the computed one
pub reach_sheet_computed : (plan : List ℕ) (allowance : ℕ) → ReachSheetFor plan allowance (reach_sheet_for plan allowance)
unfolding reach_sheet_for
reach_sheet_computed plan allowance = its_sheet (received_computed plan allowance)

-- any two outcomes that the contracts admit are equal
pub once : OneWritten ReachSheetFor
once = one_written ReachSheetFor reach_sheet_once

pub whole_once : OneWhole ReachSheetFor
whole_once = one_whole ReachSheetFor reach_sheet_once
