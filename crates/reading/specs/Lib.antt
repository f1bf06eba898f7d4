-- What a plan text says: document 01's 'Plan text' and 'Refusal numbers', in their order, and document 02's orders 1 and 2, over what the crate `lines`
-- says of each line.
pub mod Tree
pub mod Plan
pub mod Promise
pub mod inner
