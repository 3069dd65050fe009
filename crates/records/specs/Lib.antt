pub mod Layout
pub mod Holds
pub mod Inside
pub mod Hanging
