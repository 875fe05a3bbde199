pub mod Beside
pub mod Stored
