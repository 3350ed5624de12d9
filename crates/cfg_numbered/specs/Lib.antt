pub mod Symbols
pub mod Value
pub mod Info
pub mod PrettyPrint
