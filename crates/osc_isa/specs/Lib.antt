pub use Rattle.osc_rv.specs.Bits
pub use Rattle.osc_rv.specs.Instr
pub use Rattle.osc_word.specs.Registers
pub mod Numbers
pub mod Multiply
pub mod Integer
pub mod Traps
pub mod Atomic
