pub mod Verifying
pub mod Describing
pub mod Starts
