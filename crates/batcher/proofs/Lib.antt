-- Paths and transactions that are taken one after the other.
mod Steps
-- Paths with their numbers, one after the other.
mod NewPaths
-- The owners of paths, by the paths' numbers.
mod Numbered
-- The group that is met.
mod Meeting
-- The paths of a transaction that no group owns, and a group that gains them.
mod Unowned
-- A draft that gains a transaction.
mod Drafting
-- The group that has a path, and groups that are apart.
mod Owning
-- The transactions and the paths of a group.
mod Members
-- The longest prefix that is taken.
mod Taking
-- Cuts that were worked out by hand.
mod Worked
