-- Laws of places in a row with a set for each level and channel.
pub mod Places
