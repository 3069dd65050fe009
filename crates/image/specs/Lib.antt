pub mod Bytes
pub mod Image
pub mod Ascending
pub mod Tries
pub mod Examples
