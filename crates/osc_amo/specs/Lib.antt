pub use Rattle.osc_isa.specs.Atomic
