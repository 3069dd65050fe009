pub mod Plans
pub mod Planning
pub mod Making
pub mod Limits
