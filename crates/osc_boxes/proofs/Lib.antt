pub mod GoingOn
pub mod PagesLast
pub mod Came
pub mod GuestBoxes
pub mod CallBoxes
pub mod BoxSteps
