-- `node_in`: a frame of each kind has the bytes that are read. Assumes nothing.
use native.Mathlib.Omega.{arith}
use Rattle.lines.proofs.Table.{long_by_kind}
use Rattle.lines.proofs.rules.node_in.Goals as goal

pub byte_in-requires : goal.byte_in-requires
byte_in-requires c = omega (arith, long_by_kind _ _ c.requires _ _ c.in-Some.is c.in-Send.is)

pub byte_in-requires-in-Send : goal.byte_in-requires-in-Send
byte_in-requires-in-Send c = omega (arith, long_by_kind _ _ c.requires _ _ c.in-Some.is c.in-Send.is)

pub byte_in-requires-in-Receive : goal.byte_in-requires-in-Receive
byte_in-requires-in-Receive c = omega (arith, long_by_kind _ _ c.requires _ _ c.in-Some.is c.in-Receive.is)

pub byte_in-requires-in-Receive-2 : goal.byte_in-requires-in-Receive-2
byte_in-requires-in-Receive-2 c = omega (arith, long_by_kind _ _ c.requires _ _ c.in-Some.is c.in-Receive.is)

pub byte_in-requires-in-Receive-3 : goal.byte_in-requires-in-Receive-3
byte_in-requires-in-Receive-3 c = omega (arith, long_by_kind _ _ c.requires _ _ c.in-Some.is c.in-Receive.is)

pub byte_in-requires-in-Restriction : goal.byte_in-requires-in-Restriction
byte_in-requires-in-Restriction c = omega (arith, long_by_kind _ _ c.requires _ _ c.in-Some.is c.in-Restriction.is)

pub byte_in-requires-in-Restriction-2 : goal.byte_in-requires-in-Restriction-2
byte_in-requires-in-Restriction-2 c = omega (arith, long_by_kind _ _ c.requires _ _ c.in-Some.is c.in-Restriction.is)

pub byte_in-requires-in-Match : goal.byte_in-requires-in-Match
byte_in-requires-in-Match c = omega (arith, long_by_kind _ _ c.requires _ _ c.in-Some.is c.in-Match.is)

pub byte_in-requires-in-Match-2 : goal.byte_in-requires-in-Match-2
byte_in-requires-in-Match-2 c = omega (arith, long_by_kind _ _ c.requires _ _ c.in-Some.is c.in-Match.is)

pub byte_in-requires-in-Bracket : goal.byte_in-requires-in-Bracket
byte_in-requires-in-Bracket c = omega (arith, long_by_kind _ _ c.requires _ _ c.in-Some.is c.in-Bracket.is)
