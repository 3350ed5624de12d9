pub mod DotTexts
pub mod ObjectTexts
pub mod PageTexts
pub mod ParseTexts
pub mod TreeDots
pub mod Within
