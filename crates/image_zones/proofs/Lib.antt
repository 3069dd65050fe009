pub mod InOrderLaws
pub mod UsedLaws
pub mod PassesLaws
pub mod NumbersLaws
