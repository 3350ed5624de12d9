pub mod Places
pub mod Underlines
pub mod Occurrences
pub mod ProductionMarks
pub mod ConflictTexts
