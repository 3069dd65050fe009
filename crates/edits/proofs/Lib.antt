pub mod ThreeLaws
pub mod FreshTableLaws
pub mod StoreHoldsLaws
pub mod RemoveHoldsLaws
pub mod EditRestsLaws
pub mod FreshLaws
pub mod StoringLaws
pub mod RemovingLaws
