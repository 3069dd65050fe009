pub mod Made
pub mod Answers
pub mod Sequences
pub mod Listings
pub mod First
pub mod Second
pub mod Third
