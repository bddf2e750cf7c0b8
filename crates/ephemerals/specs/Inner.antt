-- The models of the types' private fields. No caller depends on this.
pub mod Runs
pub mod Placed
pub mod OwnersView
pub mod Steps
