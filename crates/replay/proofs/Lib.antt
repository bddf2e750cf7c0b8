pub mod Options
pub mod Printing
