pub mod KitFiles
