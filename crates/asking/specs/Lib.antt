-- What is read and printed.
pub mod Prints
