pub mod Keys
pub mod Calls
