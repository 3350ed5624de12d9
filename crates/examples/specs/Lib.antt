pub mod Values
pub mod Offers
