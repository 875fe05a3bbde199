pub mod Bits
pub mod FreeCount
pub mod LeastNumber
pub mod NoneFree
pub mod Rows
