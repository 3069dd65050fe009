pub mod Touring
pub mod Slicing
pub mod Resting
pub mod Bounds
