-- The sheet: document 01's 'The sheet', what writing one to a lent buffer does, and demand 1.
pub mod Sheet
pub mod Write
pub mod Demand
-- For inner contracts and for computing: nothing that a caller has to believe.
pub mod inner
