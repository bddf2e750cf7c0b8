pub mod Settings
pub mod Dialects
