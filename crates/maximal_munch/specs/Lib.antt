pub mod RuleValues
pub mod Beginnings
pub mod Munching
