pub mod Expressions
pub mod Lexing
pub mod LexTexts
pub mod LexTextErrors
