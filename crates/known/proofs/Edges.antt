-- The edges of document 01, of offers and of labels that concern reading, computed from the definitions alone: one row each, and one claim over the rows.
-- Assumes nothing.
use Prim.Native.Nat.{ℕ, zero, suc}
use Prim.Native.String.{String}
use mathlib.Core.Path.{◌≡◌, refl}
use mathlib.Core.Bool.{Bool, true, ◌&&◌}
use mathlib.Core.List.{List, [], ◌∷◌, ◌++◌}
use lib.Dec.{eqb}
use Rattle.std.specs.Prelude.{Err, Ok}
use Rattle.text.specs.Text.{lines_of, is_digit, value_of, all_digits, odd_or_none, is_faulty, bytes_of}
use Rattle.lines.specs.Frames.{table, frame_from}
use Rattle.label_bytes.specs.Characters.{table as character_table, fits, fits_one}
use Rattle.label_bytes.specs.Label.{is_shown, is_label_from}
use Rattle.lines.specs.Values.{padded}
use Rattle.reading.specs.Tree.{listing}
use Rattle.reading.specs.Plan.{Outcome, Plan, grow, read_names, read_offers, same_bytes, is_same, is_repeated, read_labels, read_tree, after_head, read_plan, plan_in}
use Rattle.putting.specs.Characters.{text}

-- so many lines of one kind
abbrev lines : ℕ → String → List ℕ
lines zero l = []
lines (suc n) l = text l ++ lines n l

-- a tree of sums down to depth n, with as many leaves as there can be
abbrev sums : ℕ → List ℕ
sums zero = text "10\n"
sums (suc n) = text "14\n" ++ (sums n ++ sums n)

-- a text, with the number and the line of its refusal, or 0 and 0
record Edge : Type 0 where
  said : List ℕ
  number : ℕ
  line : ℕ

abbrev row : List ℕ → ℕ → ℕ → Edge
row said number line = record { said = said; number = number; line = line }

rows : List Edge
rows =
    row (text "") 1 0
    ∷ row (text "010101000000\n10\n") 0 0
    ∷ row (text "010101000000\n10") 2 2
    ∷ row (text "0A") 2 1
    ∷ row (text "0A\n") 2 1
    ∷ row (text "010101000000\n10\n10\n") 13 3
    ∷ row (text "010101000000\n10\nx") 13 3
    ∷ row (text "010101000000\n") 12 2
    ∷ row (text "010120000000\n10\n") 0 0
    ∷ row (text "010121000000\n10\n") 6 1
    ∷ row (text "010101000600\n10\n") 0 0
    ∷ row (text "010101000700\n10\n") 6 1
    ∷ row (text "010101000001\n023f00\n123f3f\n10\n") 0 0
    ∷ row (text "010101000001\n024000\n10\n") 7 2
    ∷ row (text "010101000000\n124000\n10\n") 7 2
    ∷ row (text "010101000000\n123f00\n10\n") 9 2
    ∷ row (text "010101000000\n11\n" ++ sums 7) 0 0
    ∷ row (text "010101000000\n14\n10\n" ++ sums 7) 10 258
    ∷ row (text "010101000000\n" ++ (lines 31 "11\n" ++ text "10\n")) 0 0
    ∷ row (text "010101000000\n" ++ (lines 32 "11\n" ++ text "10\n")) 11 34
    ∷ row (text "010120000000\n031fffffffff\n10\n") 0 0
    ∷ row (text "010102000000\n030000000001\n030100000003\n10\n") 0 0
    ∷ row (text "010102000000\n030200000001\n10\n") 7 2
    ∷ row (text "010102000000\n030200000000\n10\n") 7 2
    ∷ row (text "010102000000\n030100000001\n030000000004\n10\n") 7 3
    ∷ row (text "010102000000\n030100000001\n030100000000\n10\n") 8 3
    ∷ row (text "010102000000\n0300000001\n10\n") 4 2
    ∷ row (text "010102000000\n030000000001") 2 2
    ∷ row (text "010102000000\n030000000001\n") 12 3
    ∷ row (text "010102000001\n030000000001\n020000\n10\n") 3 2
    ∷ row (text "010102000001\n03\n020000\n10\n") 3 2
    ∷ row (text "010102000001\n020000\n030000000001\n020101\n10\n") 3 4
    ∷ row (text "010102010100\n04000041\n04000142\n04010041\n04020041\n04020142\n04020743\n10\n") 0 0
    ∷ row (text "010102010100\n040000\n10\n") 4 2
    ∷ row (text "010102010100\n040000" ++ (lines 60 "41" ++ text "\n10\n")) 0 0
    ∷ row (text "010102010100\n040000" ++ (lines 61 "41" ++ text "\n10\n")) 4 2
    ∷ row (text "010102010100\n04030041\n10\n") 7 2
    ∷ row (text "010102010100\n04000241\n10\n") 7 2
    ∷ row (text "010102010100\n04010141\n10\n") 7 2
    ∷ row (text "010102010100\n04020241\n10\n") 7 2
    ∷ row (text "010102010100\n04020841\n10\n") 7 2
    ∷ row (text "010102010100\n04000141\n04000042\n10\n") 8 3
    ∷ row (text "010102010100\n04000041\n04000042\n10\n") 8 3
    ∷ row (text "010102010100\n04010041\n04000142\n10\n") 8 3
    ∷ row (text "010102010100\n04000141\n0400007f\n10\n") 8 3
    ∷ row (text "010102010100\n04020741\n04020242\n10\n") 7 3
    ∷ row (text "010102010100\n04000080\n10\n") 17 2
    ∷ row (text "010102010100\n040000c080\n10\n") 17 2
    ∷ row (text "010102010100\n040000c1bf\n10\n") 17 2
    ∷ row (text "010102010100\n040000e08080\n10\n") 17 2
    ∷ row (text "010102010100\n040000e09fbf\n10\n") 17 2
    ∷ row (text "010102010100\n040000eda080\n10\n") 17 2
    ∷ row (text "010102010100\n040000edbfbf\n10\n") 17 2
    ∷ row (text "010102010100\n040000f0808080\n10\n") 17 2
    ∷ row (text "010102010100\n040000f08fbfbf\n10\n") 17 2
    ∷ row (text "010102010100\n040000f4908080\n10\n") 17 2
    ∷ row (text "010102010100\n040000f5808080\n10\n") 17 2
    ∷ row (text "010102010100\n0400007f\n10\n") 17 2
    ∷ row (text "010102010100\n0400001f\n10\n") 17 2
    ∷ row (text "010102010100\n04000000\n10\n") 17 2
    ∷ row (text "010102010100\n040000e0a4\n10\n") 17 2
    ∷ row (text "010102010100\n04000041c2\n10\n") 17 2
    ∷ row (text "010102010100\n04000020\n10\n") 0 0
    ∷ row (text "010102010100\n0400007e\n10\n") 0 0
    ∷ row (text "010102010100\n040000c280\n10\n") 0 0
    ∷ row (text "010102010100\n040000dfbf\n10\n") 0 0
    ∷ row (text "010102010100\n040000e0a080\n10\n") 0 0
    ∷ row (text "010102010100\n040000ed9fbf\n10\n") 0 0
    ∷ row (text "010102010100\n040000ee8080\n10\n") 0 0
    ∷ row (text "010102010100\n040000efbfbf\n10\n") 0 0
    ∷ row (text "010102010100\n040000f0908080\n10\n") 0 0
    ∷ row (text "010102010100\n040000f48fbfbf\n10\n") 0 0
    ∷ row (text "010102010100\n04000041\n04000141\n10\n") 18 3
    ∷ row (text "010102010100\n040000" ++ (lines 24 "41" ++ (text "42\n040001" ++ (lines 24 "41" ++ text "43\n10\n")))) 0 0
    ∷ row (text "010102010100\n04000041\n030000000001\n10\n") 3 3
    ∷ row (text "010102010100\n10\n04000041\n") 13 3
    ∷ row (text "010102010100\n11\n04000041\n10\n") 3 3
    ∷ row (text "010102010100\n04000041\n") 12 3
    ∷ row (text "010102010100\n04000041\n04000142") 2 3
    ∷ row (text "010102010100\n030000000001\n04000041\n10\n") 0 0
    ∷ row (text "010101000600\n04020641\n04020742\n10\n") 0 0
    ∷ row (text "010102000001\n04000041\n020000\n10\n") 3 2
    ∷ row (text "010102010100\n040300\n10\n") 4 2
    ∷ row (text "010102010100\n04030080\n10\n") 7 2
    ∷ row (text "010102000100\n04010041\n10\n") 7 2
    ∷ row (text "010102010100\n04000041\n04000041\n10\n") 8 3
    ∷ row (text "010103010100\n04000041\n04000142\n04000241\n10\n") 18 4
    ∷ row (text "010102010100\n04000041\n0400014141\n10\n") 0 0
    ∷ row (text "010102010100\n040000c241\n10\n") 17 2
    ∷ row (text "010102010100\n040000e18041\n10\n") 17 2
    ∷ row (text "010102010100\n040000f1808041\n10\n") 17 2
    ∷ []

abbrev answers : Outcome Plan → ℕ → ℕ → Bool
answers (Err f) number line = eqb f.number number && eqb f.line line
answers (Ok p) number line = eqb 0 number && eqb 0 line

abbrev all : List Edge → Bool
all [] = true
all (r ∷ rs) = answers (plan_in r.said) r.number r.line && all rs

edges : all rows ≡ true
unfolding lines_of is_digit value_of all_digits odd_or_none is_faulty bytes_of table frame_from
    character_table fits fits_one is_shown is_label_from padded same_bytes is_same is_repeated read_labels
    listing
    grow read_names read_offers read_tree after_head read_plan plan_in rows
edges = refl
