pub mod Grants
pub mod Leaves
pub mod Places
pub use Rattle.osc_space.specs.Objects
pub use Rattle.osc_space.specs.ObjectLaws
pub mod OwnerLaws
