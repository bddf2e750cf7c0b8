-- A node that was borrowed mutably.
pub mod NodeUpdates
-- Nodes that are taken out of a map, and put into one.
pub mod MovedNodes
-- A loop that stops at the first item that fails.
pub mod Deciding
-- The entries of a hash map are its nodes, each once.
pub mod HashedNodes
-- How the nodes of a map are linked.
pub mod Links
-- Items of a set that are as many as the set.
pub mod Counting
-- The owners of a map's nodes, as pairs.
pub mod OwnersOfNodes
-- The number of owned nodes that a loop has found.
pub mod CountedOwners
-- Paths and names stay valid.
pub mod Naming
