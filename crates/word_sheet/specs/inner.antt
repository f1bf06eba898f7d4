-- For the code's inner contracts alone.
pub mod Working
-- What the checker computes with.
pub mod Compute
