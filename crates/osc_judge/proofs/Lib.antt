mod Turned
mod Judgings
mod Booted
