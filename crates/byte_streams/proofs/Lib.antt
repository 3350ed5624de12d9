pub mod ReadSoFar
pub mod Written
pub mod Numberless
