pub mod Credentials
pub mod State
pub mod Sessions
pub mod Agreement
pub mod Rows
pub mod Inner
