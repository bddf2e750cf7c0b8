-- The length of lists.
pub mod Counting
-- Bodies, and the room before them.
pub mod Filling
-- Bytes after a body.
pub mod Longer
-- Lists and Stats that may be written, and their lengths.
pub mod Writing
-- Looks that were worked out by hand.
pub mod Rows
