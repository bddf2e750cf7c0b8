pub mod Pairs
pub mod Fed
pub mod Laws
pub mod Rows
pub mod Inner
