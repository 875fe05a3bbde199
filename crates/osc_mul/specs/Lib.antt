pub mod Divided
pub use Rattle.osc_isa.specs.Multiply
