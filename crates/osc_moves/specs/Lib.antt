pub mod Standing
pub use Rattle.osc_calls.specs.Moves
pub use Rattle.osc_machine.specs.Turns
