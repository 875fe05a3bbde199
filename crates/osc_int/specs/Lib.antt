pub use Rattle.osc_isa.specs.Numbers
pub use Rattle.osc_isa.specs.Integer
