-- The laws of places that the crates above cite.
pub mod Fits
pub mod Speaking
