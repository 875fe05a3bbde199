mod Powers
mod Parts
mod Empty
mod Combined
mod Ranges
