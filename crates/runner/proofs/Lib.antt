-- What is true of a run, and what the proofs of the functions cite.
pub mod OpeningLaws
pub mod BegunLaws
pub mod Whole
