mod NamedTokens
mod NamedWords
mod LexedParts
mod SaidEdits
mod ReadLines
mod TakenLexemes
mod FittedWords
mod ShownNames
mod Spaces
mod NodeRows
pub mod ShownTexts
