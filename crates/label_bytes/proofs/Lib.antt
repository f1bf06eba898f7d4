-- The laws behind the functions' proofs, from tests to labels. The crates above cite those that are pub.
mod Lists
mod Table
mod Letters
mod Leads
mod Found
mod Beginnings
mod Passed
mod Computed
pub mod Labels
