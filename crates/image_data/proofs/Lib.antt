pub mod RunsLaws
pub mod OffsetLaws
pub mod PlaceLaws
