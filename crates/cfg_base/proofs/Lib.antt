pub mod Columns
pub mod LineCuts
pub mod Lines
pub mod NewlineOffsets
pub mod Pieces
pub mod TextRuns
