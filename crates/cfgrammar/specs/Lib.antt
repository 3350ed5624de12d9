pub mod FromAst
pub mod AddedProductions
