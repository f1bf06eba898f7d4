-- The laws and theorems, by subject. Other crates may cite them.
-- The code's writing.
pub mod Filling
pub mod Parts
-- Writing a sheet, whichever is meant.
pub mod Writing
-- The promise, over texts.
pub mod Sheets
pub mod Demands
