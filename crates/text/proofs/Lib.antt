-- The laws of lines and of their bytes, at positions of a text; and laws of lists and tests alone.
pub mod Lists
pub mod Tests
pub mod Lines
