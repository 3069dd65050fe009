pub mod RefusalsLaws
