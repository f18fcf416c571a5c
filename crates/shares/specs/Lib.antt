pub mod Faults
pub mod Listed
pub mod Level
pub mod Ordered
