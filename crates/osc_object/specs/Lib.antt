pub mod Turns
pub mod Decisions
pub mod Rows
pub mod Changes
pub mod Applied
