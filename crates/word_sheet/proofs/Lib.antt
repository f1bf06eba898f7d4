-- The laws and theorems of the word sheet.
mod Naming
pub mod Words
