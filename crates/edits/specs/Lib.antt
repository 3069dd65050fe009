pub mod Fresh
pub mod Storing
pub mod Removing
pub mod Resting
