-- The names of a set, as they are written.
pub mod Names
-- The loop over the parts of a multiRead.
mod Parts
