mod Answered
pub mod Fronts
pub mod Handles
mod NoErrors
mod Numbers
mod Readings
mod Shown
pub mod Values
