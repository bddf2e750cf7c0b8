pub mod Acls
pub mod Fields
pub mod Held
pub mod Paths
