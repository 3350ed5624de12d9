pub mod Notes
pub mod Refusals
