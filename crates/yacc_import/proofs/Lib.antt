pub mod Parts
pub mod LineFeeds
pub mod Places
pub mod Bytes
pub mod Applying
