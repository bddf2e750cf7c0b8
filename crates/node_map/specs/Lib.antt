pub mod Nodes
pub mod Stats
pub mod Updates
pub mod Agreement
pub mod Children
pub mod Inner
