pub mod Lying
pub mod Maps
pub mod Unmaps
pub mod Plans
