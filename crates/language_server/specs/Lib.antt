pub mod Counts
pub mod Frames
pub mod Lines
pub mod Positions
pub mod Protocol
pub mod Reading
pub mod Sessions
pub mod Texts
