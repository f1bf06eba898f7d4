-- The word sheet.
pub mod WordSheet
-- For inner contracts and for computing: nothing that a caller has to believe.
pub mod inner
