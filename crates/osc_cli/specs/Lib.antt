pub mod Numbers
pub mod Choices
pub mod Command
pub mod Words
