-- Plans with known reach sheets: one row each, and one claim over the rows, that each reach sheet is its text's. The checker computes it from the
-- definitions alone. Assumes nothing.
use Prim.Native.Nat.{ℕ}
use mathlib.Core.Path.{◌≡◌, refl}
use mathlib.Core.List.{List, [], ◌∷◌, ◌++◌}
use Rattle.text.specs.Text.{lines_of, is_digit, value_of, all_digits, odd_or_none, is_faulty, bytes_of}
use Rattle.lines.specs.Frames.{table, frame_from}
use Rattle.label_bytes.specs.Characters.{table as character_table, fits, fits_one}
use Rattle.label_bytes.specs.Label.{is_shown, is_label_from}
use Rattle.lines.specs.Values.{padded}
use Rattle.reading.specs.Tree.{listing}
use Rattle.reading.specs.Plan.{grow, read_names, read_offers, same_bytes, is_same, is_repeated, read_labels, read_tree, after_head, read_plan, plan_in}
use Rattle.sets.specs.inner.Compute.{list_within}
use Rattle.solving.specs.inner.Compute.{wanted, run, solution_of}
use Rattle.putting.specs.Characters.{text, digit, hex_line, hex_lines}
use Rattle.reaching.specs.inner.Compute.{handles_from, handles_of, channels_of}
use Rattle.reach_sheet.specs.ReachSheet.{reach_lines, ReachSheetFor}
use Rattle.reach_sheet.specs.inner.Compute.{reach_sheet_for}
use Rattle.reach_sheet.proofs.Reached.{reach_sheet_computed}
use Rattle.known.proofs.KnownPlans.{p2, p2_offered, p6}
use Rattle.known.proofs.Rows.{KnownPlan, row, allowed, sheets, computed, Claimed, claimed}

-- channel 2 is sent on channel 0 from outside every bracket: level 0 receives it there, and level 1 listens where nobody sends
abbrev household : List ℕ
household =
    text "010103020102\n020000\n020101\n15\n160202\n120002\n10\n"
    ++ text "15\n1900\n13000300\n10\n1901\n13010401\n10\n"

pub rows : List KnownPlan
rows =
    row p2 allowed (text "23000100\n23070100\nreach complete\n")
    ∷ row
    p6
    allowed
    (text "23010100\n23020001\n23020100\n23020201\n" ++ text "23070001\n23070100\n23070201\nreach complete\n")
    ∷ row p2_offered allowed (text "23000100\n23070100\nreach complete\n")
    ∷ row household allowed (text "23000200\n23070200\nreach complete\n")
    ∷ row p2 3 (text "3f0e0000\nrefused\n")
    ∷ row (text "") allowed (text "3f010000\nrefused\n")
    ∷ []

computed_rows : computed reach_sheet_for rows ≡ sheets rows
unfolding lines_of is_digit value_of all_digits odd_or_none is_faulty bytes_of table frame_from
    character_table fits fits_one is_shown is_label_from padded same_bytes is_same is_repeated read_labels
    listing
    grow read_names read_offers read_tree after_head read_plan plan_in
    wanted list_within run solution_of handles_from handles_of channels_of reach_lines digit hex_line hex_lines reach_sheet_for rows
computed_rows = refl

pub reached : Claimed ReachSheetFor rows
reached = claimed ReachSheetFor reach_sheet_for reach_sheet_computed rows computed_rows
