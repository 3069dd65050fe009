pub mod ReadingLaws
pub mod ImageLaws
pub mod LookingLaws
