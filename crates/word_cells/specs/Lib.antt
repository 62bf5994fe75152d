pub mod WordCells
pub mod InWords
