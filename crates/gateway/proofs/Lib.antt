-- The laws behind the exported functions' proofs.
pub mod Calls
