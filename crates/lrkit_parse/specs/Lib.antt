pub mod Calls
pub mod Faults
pub mod Paths
pub mod Statuses
