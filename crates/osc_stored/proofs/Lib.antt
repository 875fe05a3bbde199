pub mod BesideSteps
pub mod Copying
pub mod Storing
