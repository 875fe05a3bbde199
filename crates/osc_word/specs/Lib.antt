pub mod Limits
pub mod Registers
pub mod JobList
pub mod WaitingList
pub mod AddressMap
pub mod Environment
