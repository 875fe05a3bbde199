pub mod Division
pub mod Unique
pub mod Whole
