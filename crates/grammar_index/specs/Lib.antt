pub mod Occurrences
pub mod Renames
