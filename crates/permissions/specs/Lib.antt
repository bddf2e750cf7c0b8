pub mod Addresses
pub mod Digests
pub mod Permissions
pub mod Rows
