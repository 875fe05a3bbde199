pub mod Jobs
pub mod Begun
pub mod Labels
pub mod Turning
pub mod Outside
pub mod Giving
pub mod Config
pub mod Emptied
