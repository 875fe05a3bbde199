pub mod Seen
pub mod Sound
pub mod Answers
pub mod Within
pub use Rattle.osc_guest.specs.User
pub use Rattle.osc_guest.specs.Asks
pub use Rattle.osc_guest.specs.Told
pub use Rattle.osc_guest.specs.Fits
