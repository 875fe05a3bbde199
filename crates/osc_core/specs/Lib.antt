pub mod Shared
pub mod Acting
pub mod Sound
pub mod Ends
pub mod Words
pub mod Boot
pub mod Parts
pub mod Told
