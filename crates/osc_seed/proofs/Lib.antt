pub mod Safety
pub mod Picking
pub mod Journal
