pub mod Parts
pub mod Fitting
pub mod Filling
pub mod Agreement
pub mod Checking
