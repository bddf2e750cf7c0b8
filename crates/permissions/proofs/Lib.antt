-- Entries and ids that were worked out by hand.
pub mod Rows
