-- The laws of sets and of rows of sets, by subject.
pub mod Decide
pub mod Bits
pub mod Members
pub mod Minimum
pub mod Width
pub mod FourBytes
pub mod Removal
pub mod Joins
pub mod SameRows
pub mod Walking
pub mod Once
pub mod Computed
pub mod Listed
