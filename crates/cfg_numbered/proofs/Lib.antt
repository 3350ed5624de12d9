pub mod Ranges
pub mod Lookups
pub mod Facts
pub mod Named
pub mod Placed
pub mod Printing
pub mod RuleLists
