pub use Rattle.osc_calls.specs.Threads
pub mod Lives
