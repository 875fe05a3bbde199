pub mod Found
pub mod Writes
pub mod Whole
pub mod Opening
pub mod Taken
