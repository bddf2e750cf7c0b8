pub mod NatMaps
pub mod Heard
pub mod Steps
