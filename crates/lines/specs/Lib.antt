pub mod Split
pub mod Fields
pub mod Numbers
pub mod Reading
