-- A place fits its line: it is that of one of the first bytes of a frame, or of a pair among the line's characters. Assumes nothing.
use Prim.Native.Nat.{ℕ, ◌+◌, ◌/◌, ◌≤◌, max}
use mathlib.Core.Bool.{Bool}
use mathlib.Core.List.{List}
use native.Mathlib.Omega.{arith}
use lib.ListN.{length}
use Rattle.std.proofs.lemmas.List.Sums.{prefix_len-le-length}
use Rattle.std.specs.Prelude.{Option, Some, None}
use Rattle.text.specs.Text.{Line, bytes_of, byte}
use Rattle.text.proofs.Lines.{bad_fits}
use Rattle.lines.specs.declared.Head.{Head}
use Rattle.lines.specs.declared.frames.Frame.{Frame}
use Rattle.lines.specs.declared.frames.Kind.{Kind}
use Rattle.lines.specs.declared.frames.Kind.TheVariants.{Send}
use Rattle.lines.specs.declared.frames.Section.{Section}
use Rattle.lines.specs.declared.frames.Section.TheVariants.{FreeNames}
use Rattle.lines.specs.Frames.{frame_of}
use Rattle.lines.specs.Rules.{head_of}
use Rattle.lines.specs.Scope.{Scope}
use Rattle.byte_places.specs.BytePlaces.{first_fault, limit_faults, kind_faults, frame_faults, kind_unmeant, frame_unmeant, place_on}

-- a fault stands in one of the bytes that are tested
fault_most : (tests : List Bool) → first_fault tests ≤ length tests + 2
fault_most tests = grind (arith, prefix_len-le-length {X = Bool})

-- a frame has at most five bytes that are tested: a case named here parts the others of its type too
few_faults : (h : Head) (section : Section) (kind : Option Kind) (frame : List ℕ) → length (kind_faults h section kind frame) ≤ 5
few_faults h FreeNames None frame = omega arith
few_faults h section (Some Send) frame = omega arith
few_faults h section kind frame = omega arith

few_unmeant : (scope : Scope) (kind : Option Kind) (frame : List ℕ) → length (kind_unmeant scope kind frame) ≤ 5
few_unmeant scope (Some Send) frame = omega arith
few_unmeant scope kind frame = omega arith

-- and so has a frame by its row of the table
few_tested : (h : Head) (scope : Scope) (row : Option Frame) (frame : List ℕ)
    → (length (frame_faults h row frame) ≤ 5) × (length (frame_unmeant scope row frame) ≤ 5)
few_tested h scope None frame = (omega arith, omega arith)
few_tested h scope (Some row) frame = (few_faults h row.section row.kind frame, few_unmeant scope row.kind frame)

pub place_most : (h : Head) (scope : Scope) (line : Line) (number : ℕ) → place_on h scope line number ≤ max 7 ((length line.characters + 1) / 2)
place_most h scope line number =
    let frame = bytes_of line.characters in
    let row = frame_of (byte 0 frame) in
    let few = few_tested h scope row frame in
    grind (arith, few, bad_fits 0 line.characters, fault_most (limit_faults (head_of frame)), fault_most (frame_faults h row frame), fault_most (frame_unmeant scope row frame))
