-- What the proofs of the functions cite, and what is true of what they answer.
pub mod BitLaws
pub mod CellLaws
pub mod NoTwoOutcomes
