pub mod TokenRows
pub mod Passed
pub mod FirstSteps
pub mod FirstFills
pub mod WorkSteps
pub mod Backwards
pub mod FollowSteps
pub mod FollowFills
pub mod PathSteps
pub mod PathFills
mod Searches
