pub mod WorkLists
pub mod Orders
pub mod Firsts
pub mod Follows
pub mod Paths
pub mod Productive
pub mod Searching
