pub mod LayoutLaws
pub mod FieldsLaws
pub mod OnceLaws
pub mod HoldsLaws
pub mod GraftLaws
pub mod HangingLaws
pub mod EntriesLaws
