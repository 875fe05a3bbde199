pub mod Cutting
pub mod Pairs
pub mod Named
pub mod Whole
pub mod Fits
pub mod Faults
