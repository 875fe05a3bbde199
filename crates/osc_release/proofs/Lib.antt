pub mod Waits
pub mod Made
pub mod FirstMalloc
