pub use Rattle.osc_world.specs.World
pub use Rattle.osc_world.specs.PlainRun
pub use Rattle.osc_world.specs.Run
pub mod Shown
pub mod PlainHeap
pub mod NotStuck
