pub mod Names
pub mod Figures
pub mod Metrics
pub mod Health
pub mod Rows
