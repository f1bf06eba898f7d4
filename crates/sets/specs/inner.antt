-- For inner contracts and for computing: nothing that a caller has to believe.
pub mod Walk
pub mod Compute
