pub mod MarksLaws
pub mod NextLaws
