pub mod Used
pub mod Passes
pub mod Numbers
