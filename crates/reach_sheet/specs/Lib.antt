-- The reach sheet.
pub mod ReachSheet
-- For computing: nothing that a caller has to believe.
pub mod inner
