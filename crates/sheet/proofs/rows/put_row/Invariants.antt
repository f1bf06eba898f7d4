-- `put_row`: what is left to be put are the lines of the sets from the place on. Assumes nothing.
use lib.ListN.{drop}
use Rattle.putting.specs.Characters.{hex_lines}
use Rattle.sheet.specs.Sheet.{set_lines}
use Rattle.sheet.specs.inner.Working.{part_name, row_text}
use Rattle.putting.proofs.Putting.{Left}
use Rattle.sheet.proofs.rows.put_row.Given as goal

abbrev pub invariant-loop-place : goal.invariant-loop-place
invariant-loop-place l = Left l.initial.buffer l.at (row_text l.part l.row) l.buffer l.next (hex_lines (set_lines (part_name l.part) l.place (drop l.place l.row)))
