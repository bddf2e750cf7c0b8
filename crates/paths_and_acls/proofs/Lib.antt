-- Names between slashes, read byte by byte.
pub mod Names
-- The open list as bytes.
pub mod OpenList
-- The parts of a text before and after its last slash.
pub mod Slashes
