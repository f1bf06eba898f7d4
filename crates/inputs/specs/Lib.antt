-- What the programs answer: for a whole input, and for a record.
pub mod Header
pub mod Answers
