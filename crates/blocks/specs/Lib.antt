pub mod Layouts
pub mod Blocks
pub mod Reading
pub mod Writing
pub mod Laws
