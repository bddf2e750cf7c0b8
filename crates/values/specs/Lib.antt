pub mod Faults
pub mod Gains
pub mod Hex
pub mod Maybe
pub mod Stored
