pub mod Errors
mod Positions
mod Once
