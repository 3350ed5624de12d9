pub mod Characters
pub mod Pieces
pub mod Rules
pub mod Models
