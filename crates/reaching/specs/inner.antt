-- What is read off a row of in sets, for inner contracts and for computing.
pub mod Working
-- What the checker computes with.
pub mod Compute
