mod AddedTexts
mod EachListed
mod Groups
mod Numbers
pub mod Rounds
mod Together
