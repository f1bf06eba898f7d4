-- Which handles each level may receive, and what that answer means.
pub mod Reach
pub mod Demand
-- For inner contracts: nothing that a caller has to believe.
pub mod inner
