-- The laws of the reach sheet.
pub mod Reached
