pub mod ValueLaws
pub mod TailLaws
pub mod ReadingLaws
pub mod FramesLaws
pub mod WritingLaws
pub mod ImageLaws
