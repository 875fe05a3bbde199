pub mod Finds
mod Slots
