pub mod Written
pub mod OutBut
pub mod LeftSymbols
pub mod Lines
pub mod ShownLines
pub mod Faultless
pub mod Outcomes
pub mod OneOutput
pub mod KitRefusals
mod Stages
