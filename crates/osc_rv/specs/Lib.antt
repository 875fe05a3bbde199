pub mod Bits
pub mod Codes
pub mod Formats
pub mod Instr
