-- What the proofs of the functions cite, and what is true of shares and sheets over any layout.
pub mod LowestLaws
pub mod PointerLaws
pub mod HeldLaws
pub mod NumberLaws
pub mod CountLaws
pub mod SignedLaws
pub mod AnswerLaws
pub mod ShareRange
pub mod GridLaws
pub mod SheetLaws
pub mod SheetColumns
