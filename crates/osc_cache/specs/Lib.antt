pub mod Slots
pub use Rattle.osc_paging.specs.Boxes
pub use Rattle.osc_paging.specs.CacheLaws
