pub mod Canonical
pub mod Roots
pub mod Walking
