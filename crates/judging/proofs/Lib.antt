-- The laws behind the verdict, by subject.
pub mod Order
pub mod Turns
pub mod Verdicts
pub mod Computed
pub mod Demands
