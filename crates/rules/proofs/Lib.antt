-- What is true of what functions answer.
pub mod TurnedLaws
pub mod OneAnswer
pub mod NoTwoOutcomes
pub mod ByName
