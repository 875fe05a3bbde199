pub mod Sizes
pub mod Blocks
pub mod Plans
pub mod Releases
pub mod Forks
pub mod Ends
pub mod Standing
pub mod Children
