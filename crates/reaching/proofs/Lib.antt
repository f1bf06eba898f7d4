-- The laws behind what each level may receive: the whole, that it is computed, and what the contract comes to.
pub mod Whole
pub mod Computed
pub mod Demands
