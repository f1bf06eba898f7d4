-- What is printed is the sheet of the whole input: the front that was kept is all that decides it, and the front part of the array that is
-- written is the sheet. And an input of which a part was read is read to its end with the rest. Assumes nothing.
use Rattle.std.proofs.Common.{◌≡◌, ℕ, ◌<◌, ◌≤◌, List, ◌++◌, [], arith, length, take, ap, ◌∙◌, subst, append-nil, length-append, length-take-le, take_all}
use Rattle.std.specs.Prelude.{Option, None, Some, Result, Ok, Err, OnOk}
use Rattle.std.specs.Io.KnownBytes.{Consumes, Appends, IsAtEnd}
use Rattle.std.proofs.Math.Seq.{take-append_seam}
use Rattle.std.proofs.Math.Decide.{dec_lt}
use Rattle.sheet.specs.declared.made.Sheet.{Sheet}
use Rattle.sheet.proofs.Writing.{front_is}
use Rattle.inputs.specs.declared.Asked.{Asked}
use Rattle.inputs.specs.Answers.{AnswersInput}
use Rattle.asking.specs.Prints.{ReadsToEnd, PrintsSheet}

-- what is kept is the front of what was read, whether or not more is left
front_of : (front rest : List ℕ) (size : ℕ) → size ≤ length front → (size < length front → rest ≡ [])
    → take (length front) (take size front ++ rest) ≡ take size front
front_of front rest size within end = go (dec_lt size (length front))
  where
    kept : List ℕ
    kept = take size front

    long : length kept ≡ size
    long = length-take-le size front within

    go : Dec (size < length front) → take (length front) (kept ++ rest) ≡ kept
    go (yes h) = ap (λ l. take (length front) (kept ++ l)) (end h) ∙ ap (take (length front)) (append-nil kept) ∙ take_all (length front) kept (omega (arith, long))
    go (no n) =
        let same : length front ≡ length kept = omega (arith, long) in
        ap (λ k. take k (kept ++ rest)) same ∙ take-append_seam kept rest

pub prints : (asked : Asked) (known left before after : Option (List ℕ)) (front : List ℕ) (size : ℕ) (r : Sheet) {characters : List ℕ}
    → size ≤ length front → Consumes known left (take size front) → (size < length front → IsAtEnd left)
    → AnswersInput asked front size r → characters ≡ take r.size r.bytes → Appends before after characters
    → PrintsSheet asked known before after
prints asked None left before after front size r within consumed end answers same appended = tt
prints asked (Some input) None before after front size r within consumed end answers same appended = absurd consumed
prints asked (Some input) (Some rest) before after front size r within consumed end answers same appended =
    let whole = answers input (ap (take (length front)) consumed ∙ front_of front rest size within end) in
    record { sheet = whole.sheet; of_input = whole.of_text; printed = subst (Appends before after) (same ∙ front_is whole.fills) appended }

pub to_end : (known left new : Option (List ℕ)) (part : List ℕ) → Consumes known left part → ReadsToEnd left new → ReadsToEnd known new
to_end None left new part consumed reads = tt
to_end (Some input) None new part consumed reads = absurd consumed
to_end (Some input) (Some rest) new part consumed reads =
    λ h. reads (omega (arith, ap length consumed, length-append part rest))

-- what holds if a call returns Ok gives what does
pub on_ok : {T E : Type 0} (result : Result T E) {P Q : Type 0} → (P → Q) → OnOk result P → OnOk result Q
on_ok (Ok x) f p = f p
on_ok (Err e) f p = tt
