-- What the proofs of the functions cite.
pub mod ByteLaws
pub mod BitLaws
pub mod FieldLaws
pub mod EightLaws
pub mod SeenLaws
pub mod FiveLaws
