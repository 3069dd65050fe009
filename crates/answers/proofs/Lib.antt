pub mod MadeLaws
pub mod AnswersLaws
pub mod SequencesLaws
pub mod ListingsLaws
pub mod FirstLaws
pub mod SecondLaws
pub mod ThirdLaws
