-- The laws and theorems, by subject. Other crates may cite them.
-- The clauses and the rounds, whatever the sets are.
pub mod Acceptance
pub mod Leastness
pub mod Ranges
-- The code's table and walk.
pub mod Tables
pub mod OfferRows
pub mod Steps
pub mod Trees
pub mod Walks
pub mod Settling
-- Rounds that compute.
pub mod Lists
pub mod WantedLists
pub mod Computed
pub mod Entries
-- The count.
pub mod Sums
pub mod Sizes
pub mod Counting
-- The promise, over outcomes and over texts.
pub mod Promises
pub mod Readings
pub mod Demands
