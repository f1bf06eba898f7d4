-- The least acceptable solution and the count of rounds: document 01's 'Acceptable solutions' and 'Rounds', in their order, and document
-- 02's order 1.
pub mod Solutions
pub mod Clauses
pub mod Rounds
pub mod Least
pub mod Solve
pub mod Demand
-- For inner contracts and for computing: nothing that a caller has to believe.
pub mod inner
