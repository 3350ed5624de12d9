pub mod Source
pub mod Sink
pub mod Counting
pub mod Inputs
pub mod FaultTexts
pub mod Recording
