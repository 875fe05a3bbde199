pub mod AllBlocks
pub mod Replacing
pub mod Configs
