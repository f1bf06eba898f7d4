-- What one line of a plan text says: document 01's 'Plan text' and 'Refusal numbers', in their order, and document 02's orders 1 and 2, as far as they
-- speak of a line.
pub mod Frames
pub mod Scope
pub mod Rules
pub mod Labels
pub mod Line
pub mod Values
pub mod Promise
pub mod inner
