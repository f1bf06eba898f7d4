-- What is read and what is printed, where the bytes of both are known.
-- Assumes nothing.
use Rattle.std.specs.Prelude.{ℕ, ◌≡◌, ◌<◌, ◌^◌, Bool, true, false, List, length, Option, IfSome}
use Rattle.std.specs.Io.KnownBytes.{Consumes, Appends, IsAtEnd}
use Rattle.solving.specs.Rounds.{round_ceiling}
use Rattle.inputs.specs.declared.Asked.{Asked}
use Rattle.inputs.specs.Answers.{AskedFor}

-- some of the input is gone, or all of it was before
pub record Drops (old new : Option (List ℕ)) (more : Bool) : Type 0 where
  pub dropped : List ℕ
  pub gone : Consumes old new dropped
  pub some : more ≡ true → 0 < length dropped
  pub none : more ≡ false → IsAtEnd new

-- an input of any length that a count can have is read to its end
abbrev pub ReadsToEnd : Option (List ℕ) → Option (List ℕ) → Type 0
ReadsToEnd old new = IfSome old (λ input. length input < 2 ^ 64 → IsAtEnd new)

-- the whole input's sheet, with the most rounds that any plan takes, behind what was written before
pub record Prints (asked : Asked) (input : List ℕ) (before after : Option (List ℕ)) : Type 0 where
  pub sheet : List ℕ
  pub of_input : AskedFor asked input round_ceiling sheet
  pub printed : Appends before after sheet

abbrev pub PrintsSheet : Asked → Option (List ℕ) → Option (List ℕ) → Option (List ℕ) → Type 0
PrintsSheet asked read before after = IfSome read (λ input. Prints asked input before after)
