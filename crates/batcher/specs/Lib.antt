pub mod Class
pub mod Limits
pub mod Groups
pub mod Cut
pub mod Front
pub mod Laws
pub mod Rows
pub mod Inner
