-- Lemmas that the proofs of this crate share.
mod Ladder
mod Sorting
mod Walking
mod Going
mod Leaving
mod Settling
mod Lasting
mod Sided
