pub mod Replays
pub mod Wanting
pub mod Tables
pub mod Given
pub mod Needs
pub mod Limits
