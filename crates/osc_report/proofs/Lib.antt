pub mod Hexadecimal
pub mod Pieces
