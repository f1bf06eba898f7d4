-- `put_line`: what is left to be put is the line of the bytes from the one whose turn it is. Assumes nothing.
use lib.ListN.{drop}
use Rattle.putting.specs.Characters.{hex_line}
use Rattle.putting.proofs.Putting.{Left}
use Rattle.putting.proofs.put_line.Given as goal

abbrev pub invariant-loop-byte : goal.invariant-loop-byte
invariant-loop-byte l = Left l.initial.buffer l.at (hex_line l.bytes) l.buffer l.next (hex_line (drop l.byte-index l.bytes))
