-- What the proofs of several functions cite, and that each promise admits one outcome.
mod CountsLaws
pub mod SinglesLaws
