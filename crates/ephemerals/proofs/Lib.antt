-- The orders of paths and of pairs are total. Public.
pub mod Totals
-- Equality of two pairs. Public.
pub mod Ties
-- Claims about a call that was refused. Public.
pub mod Errors
-- The first of a list of texts in order.
pub mod TextSets
-- The pairs of one session, and those of the others. Public.
pub mod SessionPaths
-- One owner in place of another.
pub mod OtherOwner
-- The elements of a set that is listed in order. Public.
pub mod Ascending
-- Pairs at one path, and at some paths. Public.
pub mod Steps
-- Sessions and numbers, one to one.
mod Numbers
-- The owners, as they are stored: with a number for each session.
mod OwnersView
-- Places in ascending texts.
mod Places
-- Texts in runs.
mod JoinedRuns
