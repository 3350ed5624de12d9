pub mod Messages
pub mod Outcomes
pub mod Places
pub mod Shown
