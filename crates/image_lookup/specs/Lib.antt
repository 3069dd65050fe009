pub mod Looking
pub mod Following
