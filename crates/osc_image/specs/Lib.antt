pub mod Image
pub mod Frames
pub mod Form
pub mod Reading
