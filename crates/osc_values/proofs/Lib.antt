mod Numbers
mod Parts
mod Stores
