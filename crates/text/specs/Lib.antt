-- A plan text as lines of bytes, and its positions.
pub mod Text
pub mod Positions
