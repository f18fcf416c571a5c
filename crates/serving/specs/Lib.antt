-- What the contracts of this crate speak of.
pub mod Filling
pub mod Stretch
pub mod Serving
