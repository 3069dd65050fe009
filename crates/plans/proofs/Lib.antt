pub mod AppliedLaws
pub mod MakingLaws
pub mod PartsLaws
pub mod PlanningLaws
pub mod RemovalLaws
