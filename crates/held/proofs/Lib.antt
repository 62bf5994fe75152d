-- What is true of the calls.
pub mod NoTwoOutcomes
