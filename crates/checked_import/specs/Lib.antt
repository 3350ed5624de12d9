pub mod Spelling
pub mod SameRules
