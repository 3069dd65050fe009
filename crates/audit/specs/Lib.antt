pub mod Checking
pub mod Bounds
