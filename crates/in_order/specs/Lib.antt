pub mod Ordered
pub mod InOrder
