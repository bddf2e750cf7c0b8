-- The types of the frames that are forwarded.
pub mod Forwarded
-- The length of the answer to a connect.
mod Lengths
-- The worked calls, by evaluation.
pub mod Rows
