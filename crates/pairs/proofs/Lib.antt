-- The orders of texts and of pairs are total. Public.
pub mod Totals
-- Equality of two pairs. Public.
pub mod Ties
-- The number of elements of a set. Public.
pub mod SetCounts
-- Maps and sets of texts that are found by their hash. Public.
pub mod Hashed
-- Pairs that are stored as a set for each key. Public.
pub mod Grouped
-- The keys of pairs that are stored as a set for each key.
mod Keys
-- The numbers of a text and the texts of a number. Public.
pub mod NumbersOf
-- Sets that gain the elements of a list, one after the other. Public.
pub mod Adding
-- The pairs of one text, and those with one number, as lists.
mod ListedPairs
-- Pairs by text and by number.
mod Tables
-- The counts of pairs.
mod TableCounts
-- Sets of no number and of one.
mod Rows
-- The elements of a set that is listed in order. Public.
pub mod Ascending
-- Claims about a call that was refused.
mod Errors
-- What is found in the maps by text and by number.
mod Found
-- Sets of no text and of one.
mod OneText
-- Different texts are fed to a hasher as different words.
mod FedApart
