-- The nodes that are newer than a zxid.
mod LaterNodes
-- The base of a tree, and what leaves it.
mod Bases
-- What transactions change.
mod Changes
-- All nodes of a tree, one after the other.
mod EachNode
