pub mod Lists
pub mod Bits
pub mod Numbers
pub mod Meet
