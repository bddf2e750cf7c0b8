pub mod Answer
pub mod Command
pub mod Ending
