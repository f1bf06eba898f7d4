-- Lines as characters, and characters in a buffer.
pub mod Characters
pub mod Put
