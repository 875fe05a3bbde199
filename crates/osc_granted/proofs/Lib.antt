pub mod Grants
pub mod GrantedSteps
pub mod Marks
