pub mod CellsLaws
