pub use Rattle.osc_calls.specs.Lines
