pub mod Judging
pub mod Booting
