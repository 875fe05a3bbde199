pub mod Written
pub mod Graves
