-- What the programs answer.
pub mod Answering
