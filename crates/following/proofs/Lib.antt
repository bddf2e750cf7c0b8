-- Rounds: each server once.
pub mod Rounds
-- Pauses, and their bounds.
pub mod Pausing
-- Refusals in a row.
pub mod Refusing
-- The second look, and limits.
pub mod Waiting
-- Checkpoints: none before its time.
pub mod Planning
