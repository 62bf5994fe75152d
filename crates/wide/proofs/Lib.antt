-- What the proofs of the functions cite.
pub mod KeepLaws
pub mod WideLaws
