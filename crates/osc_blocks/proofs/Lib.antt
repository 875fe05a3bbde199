pub mod Runs
pub mod ConfigSteps
pub mod BlockSteps
pub mod ReplacedSteps
