pub mod Messages
pub mod Ports
pub mod Links
pub mod Desk
pub mod Steps
pub mod Agreement
pub mod Hub
pub mod Ends
