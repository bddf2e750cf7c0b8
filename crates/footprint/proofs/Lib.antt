-- A list of paths as a set.
mod Gathering
-- The paths of a set as a list.
pub mod Ascending
