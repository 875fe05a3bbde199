pub mod Program
pub mod Numbers
pub mod Layout
pub mod File
pub mod Answer
pub mod Loaded
