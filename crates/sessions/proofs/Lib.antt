-- Session ids.
pub mod Numbers
-- The steps that keep sessions and connections in agreement.
pub mod Agreeing
-- The passwords that each server of ZooKeeper makes.
pub mod RandomBytes
-- The text of the scheme "digest".
pub mod Texts
-- Cases of definitions.
pub mod Cases
-- Agreement after each step.
pub mod Kept
-- A step leaves other connections.
pub mod Others
-- Ids of new sessions are new.
pub mod NewIds
-- Passwords that servers of ZooKeeper gave.
pub mod WorkedRows
-- The number of entries of a map.
pub mod Counting
-- An id that was added is taken away again.
pub mod Undone
