pub mod Going
pub mod Crews
-- A group's paths among those of its batch.
pub mod BatchPaths
-- What no step of a schedule changes.
pub mod Stepping
-- Groups that are numbered from a place on.
pub mod Numbered
-- Every schedule has the result of the batch.
pub mod Schedules
-- Schedules that were worked out by hand.
pub mod WorkedSchedules
pub mod Places
pub mod Returning
pub mod Loops
pub mod CameHome
pub mod Taken
pub mod Shown
pub mod Sharing
-- Groups that are stopped.
pub mod Stopping
-- Lists of transactions that are applied in parts.
pub mod AppendedLists
