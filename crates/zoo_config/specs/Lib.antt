pub mod Addresses
pub mod Form
pub mod Keys
pub mod Lines
pub mod Servers
