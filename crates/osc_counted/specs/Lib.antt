pub mod Images
pub mod Regions
pub mod Told
