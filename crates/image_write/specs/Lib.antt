pub mod Writing
pub mod Parts
pub mod Stalks
pub mod Planting
pub mod Whole
