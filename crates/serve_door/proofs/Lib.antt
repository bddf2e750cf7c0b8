pub mod Beginnings
pub mod Groups
