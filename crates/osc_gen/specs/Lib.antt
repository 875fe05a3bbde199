pub mod Draws
pub mod Code
pub mod Guest
