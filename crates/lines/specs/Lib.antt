pub mod Reading
pub mod Said
