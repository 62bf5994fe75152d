-- What the proofs of the functions cite.
pub mod Table
pub mod DigitTable
pub mod StoreLaws
pub mod WidthLaws
pub mod PlaceLaws
pub mod NextLaws
pub mod ReaderLaws
-- What is true of what they answer.
pub mod OneAnswer
pub mod NoTwoOutcomes
