pub mod World
pub mod Steps
pub mod Clients
pub mod Sending
pub mod Timeouts
pub mod Results
