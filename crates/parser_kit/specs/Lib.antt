pub mod Tabled
pub mod KitParses
pub mod SeenLexemes
pub mod Kit
pub mod KitErrors
pub mod TextKinds
