pub use Rattle.osc_space.specs.PlainHeap
pub use Rattle.osc_space.specs.Agree
pub use Rattle.osc_frames.specs.Free
pub use Rattle.osc_word.specs.JobList
pub mod Plan
