pub mod Pieces
pub mod LexFiles
