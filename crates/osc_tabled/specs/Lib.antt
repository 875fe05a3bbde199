pub mod Tabled
pub mod Counts
pub mod PlainNeeds
