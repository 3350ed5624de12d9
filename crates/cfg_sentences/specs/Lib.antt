pub mod CostTable
pub mod Sentences
pub mod Greatest
pub mod TokenLists
pub mod CheapestTable
pub mod EarliestTable
pub mod SharedLists
