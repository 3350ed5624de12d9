pub mod Repeats
pub mod OutBut
pub mod NoErrors
pub mod ErrorsTold
pub mod Begun
pub mod GoingOn
mod OutlineTexts
