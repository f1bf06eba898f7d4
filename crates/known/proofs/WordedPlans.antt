-- Plans with known word sheets: one row each, and one claim over the rows, that each word sheet is its text's. The checker computes it from the
-- definitions alone. Assumes nothing.
use Prim.Native.Nat.{ℕ}
use Prim.Native.String.{String}
use mathlib.Core.Path.{◌≡◌, refl}
use mathlib.Core.List.{List, [], ◌∷◌, ◌++◌}
use Rattle.text.specs.Text.{lines_of, is_digit, value_of, all_digits, odd_or_none, is_faulty, bytes_of}
use Rattle.lines.specs.Frames.{table, frame_from}
use Rattle.label_bytes.specs.Characters.{table as character_table, fits, fits_one}
use Rattle.label_bytes.specs.Label.{is_shown, is_label_from, shortened_from}
use Rattle.lines.specs.Values.{padded}
use Rattle.reading.specs.Tree.{listing}
use Rattle.reading.specs.Plan.{grow, read_names, read_offers, same_bytes, is_same, is_repeated, read_labels, read_tree, after_head, read_plan, plan_in}
use Rattle.solving.specs.inner.Compute.{wanted, run, solution_of}
use Rattle.sets.specs.inner.Compute.{list_within, lowest_within}
use Rattle.judging.specs.inner.Compute.{verdict_from}
use Rattle.putting.specs.Characters.{text}
use Rattle.word_sheet.specs.WordSheet.{digits_of, label_for, WordSheetFor}
use Rattle.word_sheet.specs.inner.Compute.{word_sheet_for}
use Rattle.word_sheet.proofs.Words.{words_computed}
use Rattle.known.proofs.KnownPlans.{p2, p2_labelled}
use Rattle.known.proofs.Rows.{KnownPlan, row, allowed, sheets, computed, Claimed, claimed}

-- P2 with this label for level 1, in digits
abbrev labelled : String → List ℕ
labelled label =
    text "010102010102\n020000\n020101\n040201" ++ (text label ++ text "\n15\n1901\n120001\n10\n1900\n13000200\n10\n")

-- its word sheet, with what is shown of the label, in digits
abbrev shown : String → List ℕ
shown label = text "breach " ++ (bytes_of (text label) ++ text " to level 0 on channel 0: channel 1\n")

-- 23 bytes of a label, in digits
abbrev letters : String
letters = "4c4c4c4c4c4c4c4c4c4c4c4c4c4c4c4c4c4c4c4c4c4c4c"

pub rows : List KnownPlan
rows =
    row p2 allowed (text "breach level 1 to level 0 on channel 0: channel 1\n")
    ∷ row
    p2_labelled
    allowed
    (text "breach "
    ++ (bytes_of (text "e0aaaee0ab80e0aaa8e0aabe20e0aab6e0aabee0aab9")
    ++ (text " to "
    ++ (bytes_of (text "e0a4b0e0a4aee0a587e0a4b620e0a4a6e0a4b5e0a587")
    ++ (text " on "
    ++ (bytes_of (text "e0aa95e0aabee0aaae")
    ++ (text ": "
    ++ (bytes_of (text "e0a4b8e0a4b5e0a4bfe0a4a4e0a4be") ++ text "\n"))))))))
    ∷ row
    (text "010120010102\n02000a\n02011f\n04010041\n04020742\n15\n1901\n120001\n10\n1900\n13000200\n10\n")
    allowed
    (text "breach level 1 to level 0 on channel 10: channel 31\n")
    ∷ row (labelled "41414141414141414141414141414141414141414141c3a9") allowed (shown "41414141414141414141414141414141414141414141c3a9")
    ∷ row (labelled "4141414141414141414141414141414141414141414141c3a9") allowed (shown "4141414141414141414141414141414141414141414141")
    ∷ row (labelled "414141414141414141414141414141414141414141e0a4b0") allowed (shown "414141414141414141414141414141414141414141e0a4b0")
    ∷ row (labelled "41414141414141414141414141414141414141414141e0a4b0") allowed (shown "41414141414141414141414141414141414141414141")
    ∷ row (labelled "4141414141414141414141414141414141414141f09f9ab0") allowed (shown "4141414141414141414141414141414141414141f09f9ab0")
    ∷ row (labelled "414141414141414141414141414141414141414141f09f9ab0") allowed (shown "414141414141414141414141414141414141414141")
    ∷ row (labelled "41414141414141414141414141414141414141414141414141") allowed (shown "414141414141414141414141414141414141414141414141")
    ∷ row (labelled "e0a4b0e0a4b0e0a4b0e0a4b0e0a4b0e0a4b0e0a4b0e0a4b0e0a4b0e0a4b0e0a4b0e0a4b0e0a4b0e0a4b0e0a4b0e0a4b0e0a4b0e0a4b0e0a4b0e0a4b0") allowed (shown "e0a4b0e0a4b0e0a4b0e0a4b0e0a4b0e0a4b0e0a4b0e0a4b0")
    ∷ row
    (text "010102010102\n020000\n020101\n040000" ++ (text letters ++ (text "41\n040001" ++ (text letters ++ (text "42\n040200" ++ (text letters
    ++ (text "41\n040201" ++ (text letters ++ text "42\n15\n1901\n120001\n10\n1900\n13000200\n10\n"))))))))
    allowed
    (text "breach "
    ++ (bytes_of (text letters)
    ++ (text "B to "
    ++ (bytes_of (text letters) ++ (text "A on " ++ (bytes_of (text letters) ++ (text "A: " ++ (bytes_of (text letters) ++ text "B\n"))))))))
    ∷ row (text "010102010102\n020000\n020101\n15\n1900\n120001\n10\n1901\n13000200\n10\n") allowed (text "clear\n")
    ∷ row p2_labelled 3 (text "refused\n")
    ∷ row (labelled "e0a4") allowed (text "refused\n")
    ∷ row (text "") allowed (text "refused\n")
    ∷ []

computed_rows : computed word_sheet_for rows ≡ sheets rows
unfolding lines_of is_digit value_of all_digits odd_or_none is_faulty bytes_of table frame_from
    character_table fits fits_one is_shown is_label_from padded same_bytes is_same is_repeated read_labels
    listing
    grow read_names read_offers read_tree after_head read_plan plan_in
    wanted list_within run solution_of lowest_within verdict_from shortened_from digits_of label_for word_sheet_for rows
computed_rows = refl

pub worded : Claimed WordSheetFor rows
worded = claimed WordSheetFor word_sheet_for words_computed rows computed_rows
