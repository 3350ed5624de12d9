pub mod Asked
pub mod Forms
pub mod Statuses
pub mod Texts
