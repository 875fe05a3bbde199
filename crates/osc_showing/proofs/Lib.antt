pub mod Folds
pub mod Wiping
pub mod Growing
pub mod Shown
pub mod Plans
pub mod ReallocPlans
pub mod Leading
