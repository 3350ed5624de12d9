pub mod CharStarts
pub mod LineStarts
mod LaterTexts
mod TextLines
