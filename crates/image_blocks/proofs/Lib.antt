pub mod SortedLaws
pub mod InsertLaws
pub mod MarkedLaws
pub mod BlocksLaws
pub mod NextLaws
