pub mod Words
pub mod Lexing
pub mod NodeRows
pub mod Repairs
pub mod RepairReading
pub mod LineTexts
pub mod ShownTexts
pub mod LexemeTexts
