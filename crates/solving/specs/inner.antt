-- For the code's inner contracts alone: the table of sets and the walk of a round.
pub mod Table
pub mod Walk
-- What the checker computes with.
pub mod Compute
