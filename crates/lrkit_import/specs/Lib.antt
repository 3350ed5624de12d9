pub mod Statuses
pub mod Counts
pub mod Calls
pub mod Runs
