-- Document 01's plans with known sheets, P1 to P10 (P9 has two rows), then plans with offers and with labels: one claim over the rows, that each sheet
-- is its text's. The checker computes it from the definitions alone. Assumes nothing.
use Prim.Native.Nat.{ℕ}
use mathlib.Core.Path.{◌≡◌, refl}
use mathlib.Core.List.{List, [], ◌∷◌, ◌++◌}
use Rattle.text.specs.Text.{lines_of, is_digit, value_of, all_digits, odd_or_none, is_faulty, bytes_of}
use Rattle.lines.specs.Frames.{table, frame_from}
use Rattle.label_bytes.specs.Characters.{table as character_table, fits, fits_one}
use Rattle.label_bytes.specs.Label.{is_shown, is_label_from}
use Rattle.lines.specs.Values.{padded}
use Rattle.reading.specs.Tree.{listing}
use Rattle.reading.specs.Plan.{grow, read_names, read_offers, same_bytes, is_same, is_repeated, read_labels, read_tree, after_head, read_plan, plan_in}
use Rattle.solving.specs.inner.Compute.{wanted, run, solution_of}
use Rattle.sets.specs.inner.Compute.{list_within, lowest_within}
use Rattle.judging.specs.inner.Compute.{verdict_from}
use Rattle.putting.specs.Characters.{text, digit, hex_line, hex_lines}
use Rattle.sheet.specs.Sheet.{set_lines, SheetFor}
use Rattle.sheet.specs.inner.Compute.{sheet_for}
use Rattle.sheet.proofs.Sheets.{sheet_computed}
use Rattle.known.proofs.Rows.{KnownPlan, row, allowed, sheets, computed, Claimed, claimed}

abbrev pub p2 : List ℕ
p2 = text "010102010102\n020000\n020101\n15\n1901\n120001\n10\n1900\n13000200\n10\n"

-- P2 with a label for each level and each channel, in two scripts: મીના શાહ is level 1, रमेश दवे level 0, કામ channel 0, सविता channel 1
abbrev pub p2_labelled : List ℕ
p2_labelled =
    text "010102010102\n020000\n020101\n040000e0aa95e0aabee0aaae\n040001e0a4b8e0a4b5e0a4bfe0a4a4e0a4be\n"
    ++ text "040200e0a4b0e0a4aee0a587e0a4b620e0a4a6e0a4b5e0a587\n040201e0aaaee0ab80e0aaa8e0aabe20e0aab6e0aabee0aab9\n"
    ++ text "15\n1901\n120001\n10\n1900\n13000200\n10\n"

abbrev p2_sheet : List ℕ
p2_sheet = text "2f0004\n200000000002\n21000000000002\n21070000000002\n22010000000002\n22070000000002\n300001000001\nflow breach\n"

-- P2's receive, fed by an offer instead of P2's send: the same handle, from outside, where no level is above
abbrev pub p2_offered : List ℕ
p2_offered = text "010102010102\n020000\n020101\n030000000002\n1900\n13000200\n10\n"

abbrev p2_offered_sheet : List ℕ
p2_offered_sheet = text "2f0004\n200000000002\n21000000000002\n21070000000002\n22070000000002\n3001\nflow clear\n"

-- document 000's Example 1, a b c as channels 0 1 2, x y z w as binders 0 to 3, R Q P at 0 1 2
abbrev pub p6 : List ℕ
p6 =
    text "010103040203\n020000\n020101\n020202\n18\n15\n1900\n120001\n120001\n120102\n10\n"
    ++ text "15\n1901\n13000300\n120303\n10\n1902\n13000401\n13040502\n14\n170405\n120400\n10\n13040603\n10\n"

-- the sets shown there, count 10, yes
abbrev p6_sheet : List ℕ
p6_sheet =
    text "2f000a\n200000000002\n200100000002\n200200000007\n200300000007\n"
    ++ (text "21010000000002\n21020000000002\n21020100000007\n21070000000002\n21070100000007\n"
    ++ (text "22000000000002\n22000100000004\n22010100000002\n22020100000001\n22070000000002\n22070100000007\n"
    ++ text "3001\nflow clear\n"))

-- no sets, yes, after one round
abbrev clear_at_once : List ℕ
clear_at_once = text "2f0001\n3001\nflow clear\n"

pub rows : List KnownPlan
rows =
    row (text "010101000000\n10\n") allowed clear_at_once
    ∷ row p2 allowed p2_sheet
    ∷ row
    (text "010102010102\n020000\n020101\n15\n1900\n120001\n10\n1901\n13000200\n10\n")
    allowed
    (text "2f0004\n200000000002\n21010000000002\n21070000000002\n22000000000002\n22070000000002\n3001\nflow clear\n")
    ∷ row
    (text "010102010102\n020000\n020101\n15\n1901\n120001\n10\n1901\n13000200\n10\n")
    allowed
    (text "2f0004\n200000000002\n21010000000002\n21070000000002\n22010000000002\n22070000000002\n3001\nflow clear\n")
    ∷ row
    (text "010102010102\n020000\n020101\n15\n120001\n10\n1900\n13000200\n10\n")
    allowed
    (text "2f0004\n200000000002\n21000000000002\n21070000000002\n22070000000002\n3001\nflow clear\n")
    ∷ row p6 allowed p6_sheet
    ∷ row (text "010101010001\n020000\n13000100\n120000\n10\n") allowed clear_at_once
    ∷ row (text "010102000002\n020000\n020101\n170001\n120001\n10\n") allowed clear_at_once
    ∷ row p2 3 (text "3f0e0000\nrefused\n")
    ∷ row p2 4 p2_sheet
    ∷ row (text "") allowed (text "3f010000\nrefused\n")
    ∷ row (text "010101000000\n030000000001\n10\n") allowed (text "2f0002\n22070000000001\n3001\nflow clear\n")
    ∷ row p2_offered allowed p2_offered_sheet
    ∷ row (text "010102000000\n030000000002\n10\n") allowed (text "2f0002\n22070000000002\n3001\nflow clear\n")
    ∷ row (text "010120000000\n030001020408\n10\n") allowed (text "2f0002\n22070001020408\n3001\nflow clear\n")
    ∷ row (text "010102000000\n030000000004\n10\n") allowed (text "3f070002\nrefused\n")
    ∷ row (text "010102000000\n030000000000\n10\n") allowed (text "3f100002\nrefused\n")
    ∷ row (text "010102000000\n11\n030000000001\n10\n") allowed (text "3f030003\nrefused\n")
    ∷ row p2_labelled allowed p2_sheet
    ∷ row (text "010101000000\n04000080\n10\n") allowed (text "3f110002\nrefused\n")
    ∷ row (text "010102000000\n04000041\n04000141\n10\n") allowed (text "3f120003\nrefused\n")
    ∷ []

computed_rows : computed sheet_for rows ≡ sheets rows
unfolding lines_of is_digit value_of all_digits odd_or_none is_faulty bytes_of table frame_from
    character_table fits fits_one is_shown is_label_from padded same_bytes is_same is_repeated read_labels
    listing
    grow read_names read_offers read_tree after_head read_plan plan_in
    wanted list_within run solution_of lowest_within verdict_from set_lines digit hex_line hex_lines sheet_for rows
computed_rows = refl

pub known : Claimed SheetFor rows
known = claimed SheetFor sheet_for sheet_computed rows computed_rows
