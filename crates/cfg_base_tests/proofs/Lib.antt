pub mod Pieces
pub mod TextKeys
