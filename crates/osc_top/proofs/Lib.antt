pub mod Sinks
pub mod Files
pub mod Pieces
pub mod Runs
pub mod Safety
pub mod Told
