pub use Rattle.osc_calls.specs.WritePlan
pub use Rattle.osc_calls.specs.Kernel
pub use Rattle.osc_calls.specs.Planned
pub use Rattle.osc_paging.specs.KeptTables
pub use Rattle.osc_word.specs.JobList
pub mod Writing
