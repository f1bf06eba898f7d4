-- The header of a record: eight hexadecimal digits for the text's length, eight for the allowance of rounds, and a line feed.
-- Assumes nothing.
use Rattle.std.specs.Prelude.{ℕ, ◌+◌, ◌-◌, ◌*◌, ◌&&◌, ◌==◌, nat_le, nat_lt, if◌then◌else◌, List, [], ◌∷◌, length, slice_index, take, drop}
use Rattle.std.specs.Prelude.{Option, None, Some, option_and_then, Result, Ok, Err}
use Rattle.inputs.specs.declared.Fault.{Fault}
use Rattle.inputs.specs.declared.Fault.TheVariants.{CutShort, NoHeader, TextTooLong, AllowanceTooLarge}
use Rattle.inputs.specs.declared.header.Header.{Header}

-- 0-9 a-f by their codes, and none of any other character
abbrev pub digit_value : ℕ → Option ℕ
digit_value c =
    if nat_le 48 c && nat_le c 57
    then Some (c - 48)
    else (if nat_le 97 c && nat_le c 102 then Some (c - 87) else None)

-- the number that digits make behind n, if they are digits
abbrev pub number_from : ℕ → List ℕ → Option ℕ
number_from n [] = Some n
number_from n (c ∷ cs) = option_and_then (λ value. number_from (n * 16 + value) cs) (digit_value c)

-- the longest text of a record
abbrev pub longest_text : ℕ
longest_text = 65536

-- the largest allowance of rounds
abbrev pub largest_allowance : ℕ
largest_allowance = 65535

-- two numbers that are numbers, the length first, and not too large
abbrev pub header_for : Option ℕ → Option ℕ → Result Header Fault
header_for None allowance = Err NoHeader
header_for (Some size) None = Err NoHeader
header_for (Some size) (Some allowance) =
    if nat_lt longest_text size
    then Err TextTooLong
    else (if nat_lt largest_allowance allowance then Err AllowanceTooLarge else Ok (record { size = size; allowance = allowance }))

-- a header has 17 characters, the last a line feed
abbrev pub header_of : List ℕ → Result Header Fault
header_of line =
    if length line == 17
    then (if slice_index line 16 == 10 then header_for (number_from 0 (take 8 line)) (number_from 0 (take 8 (drop 8 line))) else Err NoHeader)
    else Err CutShort

-- the length of the text that it announces
abbrev pub size_in : Result Header Fault → ℕ
size_in (Err fault) = 0
size_in (Ok header) = header.size
