-- Sets that the checker computes with: a member joined at a place of a row, what two sets have together and share, the members and the least.
-- Assumes nothing.
use Rattle.std.specs.Prelude.{ℕ, zero, suc, ◌/◌, ◌%◌, ◌^◌, cond, List, [], ◌∷◌, eqb, set}
use Rattle.std.specs.Int.Bits.{bit_and, bit_or}
use Rattle.sets.specs.Set.{Set, is_none}
use Rattle.sets.specs.Rows.{SetRow, set_at}

-- a row with o joined to the set at place i
abbrev pub with_member : SetRow → ℕ → ℕ → SetRow
with_member row i o = set row i (bit_or (set_at row i) (2 ^ o))

-- what a or b has
abbrev pub joined : Set → Set → Set
joined a b = bit_or a b

-- what a and b share
abbrev pub shared : Set → Set → Set
shared a b = bit_and a b

-- the members of a set whose lowest digit counts for `first`; they are found within as many halvings as its number
unfoldable pub list_within : ℕ → ℕ → Set → List ℕ
list_within zero first s = []
list_within (suc left) first s =
    let later = list_within left (suc first) (s / 2) in
    let these = cond (eqb (s % 2) 1) (first ∷ later) later in
    cond (is_none s) [] these

abbrev pub list_of : Set → List ℕ
list_of s = list_within s 0 s

-- the least member of a set, which is found within as many halvings as its number
unfoldable pub lowest_within : ℕ → Set → ℕ
lowest_within zero s = zero
lowest_within (suc left) s =
    let later = suc (lowest_within left (s / 2)) in
    cond (eqb (s % 2) 1) zero later

abbrev pub lowest : Set → ℕ
lowest s = lowest_within s s
