pub mod Finding
pub mod Handing
pub mod Turning
pub mod Queueing
