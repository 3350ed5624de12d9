pub mod Counts
pub mod NoErrors
