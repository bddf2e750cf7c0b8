pub mod Queue
pub mod State
pub mod Pending
pub mod Agreement
pub mod Laws
pub mod Rows
pub mod Inner
