pub mod Turns
pub mod Admission
pub mod Tables
