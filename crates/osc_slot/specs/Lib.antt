pub use Rattle.osc_class.specs.Rooms
pub mod Least
pub mod Ordered
pub mod Areas
pub mod Slots
pub mod Heap
