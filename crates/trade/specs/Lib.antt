-- What the contracts of this crate speak of.
pub mod Prices
pub mod State
pub mod Level
pub mod Sweep
pub mod Compaction
pub mod Trades
pub mod Rows
