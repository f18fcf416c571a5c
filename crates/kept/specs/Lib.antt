-- What the contracts of this crate speak of.
pub mod Ranked
pub mod Standing
pub mod Orders
pub mod Quotes
pub mod Inserting
pub mod Kept
