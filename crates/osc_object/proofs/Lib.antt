mod Rows
mod Applies
