pub mod Run
pub mod Opened
