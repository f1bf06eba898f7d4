-- `bytes_in`: the places so far hold as many of the line's bytes from `from` on. Assumes nothing.
use Rattle.std.proofs.Common.{◌≡◌, take, drop}
use Rattle.text.specs.Positions.{bytes_at}
use Rattle.text.proofs.bytes_in.Given as goal

abbrev pub invariant-loop-i : goal.invariant-loop-i
invariant-loop-i l = take l.i l.into ≡ take l.i (drop l.from (bytes_at l.text l.at))
