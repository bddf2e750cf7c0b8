-- A list that grew and was cut back.
pub mod Lists
-- A pair that was added and is removed again, and the changes of pairs.
pub mod UndonePairs
-- A create of a name that is taken, and one that is refused.
pub mod Creates
-- The state that a delete leaves.
pub mod Deletes
-- One more part of a multi, one more delete of a closeSession, and the errors of parts.
pub mod Multis
-- States with the same cells, and the effect of one change on a cell.
pub mod SameCells
-- Transactions on other cells commute.
pub mod Commute
-- The groups of a batch, each on its own cells.
pub mod Batches
-- Cells that are taken out of a state, and put back.
pub mod MovedCells
-- The effect of a transaction doesn't depend on the sessions.
pub mod CellMeanings
-- A node that was inserted where it has a place, and one that wasn't.
pub mod Placing
-- Transactions and inserted nodes keep paths and names valid.
pub mod KeepingNames
