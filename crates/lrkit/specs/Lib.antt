pub mod RunKits
pub mod Faults
pub mod Output
pub mod LineSteps
pub mod Writing
pub mod Run
pub mod Answers
