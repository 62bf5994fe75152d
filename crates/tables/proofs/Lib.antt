-- What the proofs of the functions cite, and laws of a list that is written from the front and of an opening's rows.
pub mod FillLaws
pub mod RowLaws
