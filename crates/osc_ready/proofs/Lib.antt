pub mod Limits
pub mod Shared
pub mod LastPage
pub mod Found
pub mod Writes
pub mod Laid
pub mod Opening
pub mod Taken
