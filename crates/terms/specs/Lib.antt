pub mod Numbers
pub mod Refusals
pub mod Classes
pub mod Sides
