-- What writing a sheet returns and leaves is what a caller in another language gets, whichever sheet it is: the length is the same in both of its
-- outcomes. And the contract of each exported function admits one outcome. Assumes nothing.
use Prim.Native.Nat.{ℕ, ◌≤◌}
use mathlib.Core.Path.{◌≡◌, sym, ap, ◌∙◌}
use mathlib.Core.List.{List, ◌++◌}
use native.Mathlib.Decide.{dec_le}
use native.Mathlib.Omega.{arith}
use lib.ListN.{length, drop}
use Rattle.sheet.specs.Sheet.{SheetFor}
use Rattle.sheet.specs.Write.{Written, length_in, Wrote, Writes}
use Rattle.sheet.proofs.Writing.{OneSheet, length_is}
use Rattle.sheet.proofs.Sheets.{sheet_once}
use Rattle.reach_sheet.specs.ReachSheet.{ReachSheetFor}
use Rattle.reach_sheet.proofs.Reached.{reach_sheet_once}
use Rattle.word_sheet.specs.WordSheet.{WordSheetFor}
use Rattle.word_sheet.proofs.Words.{word_sheet_once}
use Rattle.gateway.specs.Call.{Fits, Answers}

-- ---- what a caller gets

fits : {sheet before after : List ℕ} {returned : Written} {size : ℕ} → size ≡ length_in returned → Wrote sheet before returned after
    → Fits sheet before size after
fits e w = record { long = e ∙ length_is w; unchanged = λ h. (w.longer h).1; written = λ h. (w.otherwise h).1 }

pub answers : {IsSheet : List ℕ → ℕ → List ℕ → Type 0} {text : List ℕ} {allowance : ℕ} {before after : List ℕ} {returned : Written} {size : ℕ}
    → size ≡ length_in returned → Writes IsSheet text allowance before returned after → Answers IsSheet text allowance before size after
answers e w = record { sheet = w.sheet; of_text = w.of_text; fits = fits e w.wrote }

-- ---- outcomes

-- equal sheets leave equal lengths and buffers
fits_once : {s t before after later : List ℕ} {size other : ℕ} → s ≡ t → Fits s before size after → Fits t before other later
    → (size ≡ other) × (after ≡ later)
fits_once {s} {t} {before} {after} {later} same a b = (a.long ∙ (ap length same ∙ sym b.long), go (dec_le (length s) (length before)))
  where
    go : Dec (length s ≤ length before) → after ≡ later
    go (yes h) = a.written h ∙ (ap (λ sheet. sheet ++ drop (length sheet) before) same ∙ sym (b.written (omega (arith, ap length same))))
    go (no n) = a.unchanged (omega arith) ∙ sym (b.unchanged (omega (arith, ap length same)))

-- any two outcomes that a contract admits are equal, where a text has one sheet of the kind
abbrev OneAnswer : (List ℕ → ℕ → List ℕ → Type 0) → Type 0
OneAnswer IsSheet =
    (text : List ℕ) (allowance : ℕ) (before : List ℕ) (size other : ℕ) (after later : List ℕ)
    → Answers IsSheet text allowance before size after
    → Answers IsSheet text allowance before other later
    → (size ≡ other) × (after ≡ later)

one_answer : (IsSheet : List ℕ → ℕ → List ℕ → Type 0) → OneSheet IsSheet → OneAnswer IsSheet
one_answer IsSheet one text allowance before size other after later a b =
    fits_once (one text allowance _ _ a.of_text b.of_text) a.fits b.fits

pub once : OneAnswer SheetFor
once = one_answer SheetFor sheet_once

pub reach_once : OneAnswer ReachSheetFor
reach_once = one_answer ReachSheetFor reach_sheet_once

pub words_once : OneAnswer WordSheetFor
words_once = one_answer WordSheetFor word_sheet_once
