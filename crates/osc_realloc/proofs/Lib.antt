pub mod After
pub mod Rooms
pub mod Gone
pub mod Fits
pub mod Moved
pub mod Planned
