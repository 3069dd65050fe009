pub mod WordsLaws
pub mod HalvesLaws
pub mod KeysLaws
