pub mod Part
pub mod Book
pub mod Written
pub mod Walk
pub mod BookRows
