pub mod Different
pub mod First
pub mod Lacking
pub mod Laid
pub mod Counted
pub mod Rows
pub mod Start
