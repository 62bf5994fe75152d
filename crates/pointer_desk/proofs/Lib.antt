-- Laws for the proofs of the functions.
pub mod SheetLaws
pub mod BoundaryLaws
pub mod PartLaws
-- Theorems for a reader.
pub mod Handed
pub mod LineForms
pub mod NoTwoOutcomes
pub mod NoTwoInOrder
pub mod NoTwoInWords
