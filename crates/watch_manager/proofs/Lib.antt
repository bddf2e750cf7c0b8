-- The order of watches is total, and ties only equal watches. Public.
pub mod Totals
-- The number of elements of a union.
mod SetCounts
-- The watchers of a path, and a table without a path or a connection. Public.
pub mod Watchers
-- The counts of all tables.
mod AllCounts
-- A table without the watches on some paths.
mod Lefts
-- Firing, evaluated on watches given as a list.
mod Evaluating
-- Where no event is sent, no watch is used up.
mod Silent
-- The connections that get an event, and how often.
mod Told
-- The watches of other connections.
mod Others
-- Lists in ascending order. Public.
pub mod Ascending
-- The watches of a table, listed.
mod Listing
-- The connections that watch a path or one above it.
pub mod Aboves
-- The lengths of the paths that are watched.
mod Lengths
-- What holds of lasting watches for each firing.
mod LastingLaws
-- A table without a watch.
mod Emptiness
-- Where nothing is watched, a trigger has no event.
mod Unwatched
