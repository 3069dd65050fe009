pub mod Walking
pub mod Descending
pub mod Paths
pub mod Matching
pub mod Reading
pub mod Fetching
