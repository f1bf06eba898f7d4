-- `put_line`: what is left to be put is the line of the bytes from the one whose turn it is. Assumes nothing.
use Rattle.putting.proofs.Characters.{line_step, line_end_lem}
use Rattle.putting.proofs.put_line.Goals as goal

pub loop-byte-preserved : goal.loop-byte-preserved
loop-byte-preserved c =
    rw (c.digit.ensures, c.digit-in-loop-byte.ensures) (line_step c.loop-byte.byte-index _ c.loop-byte.invariant c.loop-byte-test.true)

pub returns : goal.returns
returns c = line_end_lem c.loop-byte.byte-index _ c.loop-byte.invariant c.loop-byte-test.false
