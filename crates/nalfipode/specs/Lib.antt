pub mod Keys
pub mod Cells
pub mod Changes
pub mod Reads
pub mod Slices
pub mod Checks
pub mod Images
