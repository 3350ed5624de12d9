pub mod Added
pub mod Places
