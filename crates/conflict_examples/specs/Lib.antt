-- Examples of conflicts that can be checked against the grammar alone.
pub mod Spines
pub mod ExampleViews
pub mod ListedExamples
pub mod Opening
