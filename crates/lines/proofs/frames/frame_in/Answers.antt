-- `frame_in`: each return is what is judged of the line, by the tests that led to it. Assumes nothing.
use Prim.Native.Nat.{◌<◌}
use mathlib.Core.Path.{◌≡◌, sym, ◌∙◌}
use native.Mathlib.Omega.{arith}
use lib.ListN.{length}
use Rattle.text.specs.Positions.{line_at, rest_at}
use Rattle.lines.specs.Frames.{row_in, frame_in}
use Rattle.lines.proofs.Table.{frame_none, line_frame, sound, framed}
use Rattle.lines.proofs.frames.frame_in.Goals as goal

-- the row that is judged is that of the line's first byte
judged : (c : goal.After-row_in) → row_in c.args.span c.size_in.result c.frame_of.result ≡ frame_in c.args.span (rest_at c.args.text.now c.args.at)
judged c =
    let here : c.args.at < length c.args.text.now = omega arith in
    let sound = sym c.is_faulty.ensures ∙ c.if-is_faulty.false in
    rw (line_frame c.args.text.now c.args.span c.args.at here, sound, c.frame_of.ensures, c.byte_in.ensures, c.size_in.ensures)

pub returns-then-text-at-clause-judged : goal.returns-then-text-at-clause-judged
returns-then-text-at-clause-judged c = sym (frame_none c.args.text.now c.args.span c.args.at c.if-text-at.true)

pub returns-then-is_faulty-clause-judged : goal.returns-then-is_faulty-clause-judged
returns-then-is_faulty-clause-judged c =
    let here : c.args.at < length c.args.text.now = omega arith in
    let faulty = sym c.is_faulty.ensures ∙ c.if-is_faulty.true in
    rw (line_frame c.args.text.now c.args.span c.args.at here, faulty)

pub byte_in-requires : goal.byte_in-requires
byte_in-requires c = (sound (line_at c.args.text.now c.args.at) (sym c.is_faulty.ensures ∙ c.if-is_faulty.false)).some

pub returns-clause-judged : goal.returns-clause-judged
returns-clause-judged c = c.row_in.ensures ∙ judged c

pub returns-clause-framing : goal.returns-clause-framing
returns-clause-framing c = framed _ _ _ _ (c.row_in.ensures ∙ judged c)
