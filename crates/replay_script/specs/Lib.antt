pub mod Ints
pub mod Line
pub mod Rows
pub mod Script
