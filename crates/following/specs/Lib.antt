pub mod Checkpoints
pub mod Ends
pub mod Finding
pub mod Patience
pub mod Plans
pub mod Searches
pub mod Waits
