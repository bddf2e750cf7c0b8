-- A list that a loop visits: the elements taken, and those left.
pub mod Lists
-- The parts of a multi, taken one by one.
pub mod Parts
-- The transactions of a log, taken one by one.
pub mod Logs
-- A path is made of its parent and its name.
pub mod Names
-- The Stat's cversion in whole numbers.
pub mod Numbers
-- Signed numbers that are compared by their bits.
pub mod Bits
-- The invariant of nodes and counts in a clean log, for one operation.
pub mod Holding
-- A clean log leaves nodes whose numbers are their counts.
pub mod Runs
-- The counts of the fresh tree.
pub mod Fresh
-- Counts that were worked out by hand.
pub mod Worked
-- The ephemeral nodes of a session that ends are deleted in turn, each before those below it.
pub mod Turns
