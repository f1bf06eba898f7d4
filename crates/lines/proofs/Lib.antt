-- The laws behind the functions' proofs, from the table of frames to a line. The crates above cite those that are pub: the promise of a line, the places
-- of what may have a label, arrays with one value behind what they hold, and that the contracts fix the outcome.
mod Scopes
pub mod Padded
mod Table
mod RulesWithin
pub mod Promise
pub mod Things
pub mod Once
