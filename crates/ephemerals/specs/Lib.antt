pub mod Orders
pub mod Pairs
pub mod Inner
