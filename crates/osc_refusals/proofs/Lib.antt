pub mod Few
pub mod Frames
pub mod Rule
