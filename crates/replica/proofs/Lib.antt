-- The tree is the base with the log applied.
pub mod Following
-- Transactions that are applied later.
pub mod OneTransaction
-- Images, part by part.
pub mod Images
-- Taking an item.
pub mod Carrying
-- What was learnt of an item, and the dialect.
pub mod Learners
-- Clients that are served stay served.
pub mod Serving
