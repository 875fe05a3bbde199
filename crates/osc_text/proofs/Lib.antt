pub mod Inverse
pub mod Decimals
