pub mod Clean
pub mod Count
pub mod Audit
pub mod Laws
pub mod Rows
