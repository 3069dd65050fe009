pub mod CheckingLaws
pub mod NodeLaws
pub mod BelowLaws
pub mod ChainLaws
pub mod HoldsLaws
pub mod PromiseLaws
