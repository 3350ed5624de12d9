mod Cuts
mod Folds
mod Rooms
mod Sections
