-- What the checker computes with.
pub mod Compute
