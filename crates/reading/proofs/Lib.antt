-- The laws behind the functions' proofs, from a node to the whole text. The crates above cite those that are pub: what reading promises.
mod Growing
mod Naming
mod Offering
mod Repeating
mod Labelling
mod TreeWithin
mod LabelsWithin
pub mod Promise
mod Whole
pub mod Listing
