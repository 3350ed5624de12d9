mod Acted
mod Joins
