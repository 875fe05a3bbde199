pub mod Agreeing
pub mod Recorded
