pub use Rattle.osc_calls.specs.Open
pub use Rattle.osc_paging.specs.KeptTables
pub use Rattle.osc_paging.specs.TableChanges
pub use Rattle.osc_word.specs.JobList
pub use Rattle.osc_frames.specs.Free
pub mod Laying
pub mod Row
