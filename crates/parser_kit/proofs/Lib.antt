pub mod KitParses
mod ParsedAlike
mod SeenRuns
mod SeenParses
mod SeenAlike
pub mod Kits
pub mod Tabled
mod HandedOut
mod Undeclared
pub mod TextKinds
pub mod Outlined
