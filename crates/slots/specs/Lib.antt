pub mod FirstSlots
pub mod Counted
pub mod Within
