pub mod Carried
pub mod JobSteps
pub mod ShareCarries
pub mod Leaving
pub mod PlanSteps
pub mod BeginSteps
pub mod FinishSteps
