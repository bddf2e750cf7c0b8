pub mod LaterReads
pub mod Serve
pub mod Runs
pub mod Inner
