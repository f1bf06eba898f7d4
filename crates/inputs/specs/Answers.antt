-- What the programs answer: for a whole input, of which they keep the front, and for a record.
-- Assumes nothing.
use Rattle.std.specs.Prelude.{ℕ, ◌<◌, ◌≤◌, ◌≡◌, List, length, take, Result, Ok, Err, IsOkAnd, codes}
use Rattle.solving.specs.Rounds.{round_ceiling}
use Rattle.sheet.specs.declared.made.Sheet.{Sheet}
use Rattle.sheet.specs.Sheet.{SheetFor}
use Rattle.sheet.specs.Write.{IsWhole}
use Rattle.reach_sheet.specs.ReachSheet.{ReachSheetFor}
use Rattle.word_sheet.specs.WordSheet.{WordSheetFor}
use Rattle.inputs.specs.declared.Asked.{Asked}
use Rattle.inputs.specs.declared.Asked.TheVariants.{Flow, Reach, Words}
use Rattle.inputs.specs.declared.Fault.{Fault}
use Rattle.inputs.specs.declared.Fault.TheVariants.{CutShort, NoHeader, TextTooLong, AllowanceTooLarge}
use Rattle.inputs.specs.declared.Sheets.{Sheets}
use Rattle.inputs.specs.declared.header.Header.{Header}
use Rattle.inputs.specs.Header.{header_of}

-- ---- a whole input

-- which sheet is asked for
abbrev pub AskedFor : Asked → List ℕ → ℕ → List ℕ → Type 0
AskedFor Flow = SheetFor
AskedFor Reach = ReachSheetFor
AskedFor Words = WordSheetFor

-- the whole of it
abbrev pub IsAsked : Asked → List ℕ → ℕ → Sheet → Type 0
IsAsked asked = IsWhole (AskedFor asked)

-- every input of which `front`, in its first `size` bytes, holds as much as it can has this sheet, with the most rounds that any plan takes
abbrev pub AnswersInput : Asked → List ℕ → ℕ → Sheet → Type 0
AnswersInput asked front size r = (input : List ℕ) → take (length front) input ≡ take size front → IsAsked asked input round_ceiling r

-- ---- a record

-- what is said of a record that is none
abbrev pub sentence_of : Fault → List ℕ
sentence_of CutShort = codes "it is cut short"
sentence_of NoHeader = codes "its header is not sixteen digits of 0-9 a-f and a line feed"
sentence_of TextTooLong = codes "its length is over 65,536"
sentence_of AllowanceTooLarge = codes "its allowance is over 65,535"

-- the three sheets of a text
pub record Answered (its : List ℕ) (allowance : ℕ) (r : Sheets) : Type 0 where
  pub sheet : IsWhole SheetFor its allowance r.sheet
  pub reach : IsWhole ReachSheetFor its allowance r.reach
  pub words : IsWhole WordSheetFor its allowance r.words

-- by what its header says, and as many bytes of its text as there were
abbrev pub AnswersHeader : Result Header Fault → List ℕ → Result Sheets Fault → Type 0
AnswersHeader (Err fault) text r = r ≡ Err fault
AnswersHeader (Ok header) text r =
    (length text < header.size → r ≡ Err CutShort)
    × (header.size ≤ length text → IsOkAnd r (Answered (take header.size text) header.allowance))

-- by its header's line
abbrev pub AnswersRecord : List ℕ → List ℕ → Result Sheets Fault → Type 0
AnswersRecord line = AnswersHeader (header_of line)
