pub mod Gathering
pub mod Inner
pub mod Laws
pub mod Replica
pub mod Taking
