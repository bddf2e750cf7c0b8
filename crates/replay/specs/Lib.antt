pub mod Command
pub mod Ending
pub mod Lines
pub mod Writing
pub mod Replay
