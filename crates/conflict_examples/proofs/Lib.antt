pub mod Firsts
pub mod Items
pub mod Contests
pub mod SymbolLists
pub mod StepLists
pub mod Openings
pub mod Shows
