-- The law of the day and what it speaks of.
pub mod Possible
pub mod Tables
pub mod Priority
pub mod Law
pub mod Telling
