-- Of which byte of its line a refusal speaks: document 02's order 3.
pub mod BytePlaces
pub mod Promise
