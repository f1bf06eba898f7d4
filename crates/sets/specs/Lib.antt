-- What the contracts of this crate say: sets by their members, and rows of sets.
pub mod Set
pub mod Rows
-- For inner contracts and for computing: nothing that a caller has to believe.
pub mod inner
