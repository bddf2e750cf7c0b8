-- A set of sessions as a finite set.
pub mod SessionSets
-- The requests of one connection.
pub mod Queued
-- The requests of all connections.
pub mod Changing
-- The syncs of a connection that goes.
pub mod Disowning
-- The rows of touched sessions.
pub mod Touching
-- The places of connections in the list of syncs.
pub mod Counting
-- The requests of one connection agree after each step.
pub mod QueueSteps
-- What one connection does leaves every other.
pub mod Others
-- Whether there is any request at all.
pub mod Emptiness
-- Agreement after each step.
pub mod Agreeing
-- A transaction answers one write, and a SYNC settles one sync.
pub mod Answered
-- Requests and syncs keep their order.
pub mod Ordered
-- A connection that goes.
pub mod Dropping
-- Nothing waits of a connection that went.
pub mod Forgotten
-- Calls that may be refused.
pub mod Results
-- The rows that were worked out by hand.
pub mod WorkedRows
