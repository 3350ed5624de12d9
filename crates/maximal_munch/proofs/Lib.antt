pub mod BestSoFar
pub mod BeginningLemmas
pub mod TriedLemmas
pub mod AskedRules
pub mod MunchSteps
pub mod OneMunch
