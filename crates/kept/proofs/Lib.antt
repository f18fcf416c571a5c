-- Lemmas of this crate. Those on rank order serve crates above as well.
mod Moving
pub mod Entering
mod Keeping
