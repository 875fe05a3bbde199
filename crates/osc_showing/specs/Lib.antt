pub mod Showing
pub mod ShowLaws
pub mod PlanTurns
pub mod Leading
