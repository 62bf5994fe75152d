-- What the proofs of the functions cite.
pub mod WordLaws
pub mod PassedLaws
pub mod ReceiveLaws
pub mod NumberedLaws
-- What is true of what they answer.
pub mod ShareAndSheet
pub mod NoTwoAnswers
