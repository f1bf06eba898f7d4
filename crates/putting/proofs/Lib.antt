-- Laws of lines as characters, and of sequences put part by part.
pub mod Putting
pub mod Characters
