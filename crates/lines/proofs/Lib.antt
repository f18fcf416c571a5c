pub mod Kept
pub mod Spelling
