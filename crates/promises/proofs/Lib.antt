pub mod LeastSentences
pub mod Answered
