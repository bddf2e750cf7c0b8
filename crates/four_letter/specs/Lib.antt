pub mod Words
pub mod Watched
pub mod Dumped
pub mod Texts
pub mod Rows
pub mod Inner
