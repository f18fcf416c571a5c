-- Lemmas that the proofs of this crate share. The count of fills in a block serves the crate above as well.
mod Mapped
pub mod Counting
mod Entering
mod Stretches
mod Lowering
mod Ready
