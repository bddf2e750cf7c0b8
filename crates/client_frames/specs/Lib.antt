pub mod Call
pub mod Connect
pub mod Laws
pub mod Rows
