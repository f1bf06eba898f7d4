-- The verdict on a plan: document 01's 'Verdict', what judging answers, and demand 3.
pub mod Verdict
pub mod Judge
pub mod Demand
-- For inner contracts and for computing: nothing that a caller has to believe.
pub mod inner
