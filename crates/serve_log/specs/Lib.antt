pub mod Json
pub mod Paces
pub mod Queue
