-- What is true of a book.
-- Laws for the proofs of the functions.
pub mod TurnedLaws
pub mod OwnerLaws
pub mod SameLaws
pub mod EntryLaws
pub mod FindLaws
pub mod AnswerLaws
pub mod RefusalLaws
pub mod AddressLaws
pub mod SearchLaws
-- Theorems for a reader.
pub mod Written
pub mod Handed
pub mod NoTwoAnswers
pub mod Found
pub mod Unique
pub mod BookExactly
pub mod Cases
