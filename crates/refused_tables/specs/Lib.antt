pub mod Blocks
pub mod Cycles
pub mod Derivations
pub mod ExampleTexts
pub mod Nearer
