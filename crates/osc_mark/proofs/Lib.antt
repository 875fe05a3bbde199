pub mod ObjectPlaces
pub mod Changes
pub mod Owners
