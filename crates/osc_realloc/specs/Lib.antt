pub mod Blocks
pub mod Replaced
pub mod Outcomes
