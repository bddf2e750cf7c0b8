-- The lemmas that other crates may cite.
pub mod Public
-- The formats of the parts are sound.
pub mod Formats
-- The effect of a value that was read on a loading.
pub mod Reading
-- What the parts make, one by one.
pub mod Making
-- Images: read and spelled, in pieces, refused.
pub mod Images
-- The state that an image makes is whole.
pub mod Whole
-- The keys of ACL lists.
pub mod Keys
-- The walk over the nodes.
pub mod WalkOrder
-- Everything below a node is together in the walk.
pub mod Walks
-- Values within the limits fit the formats of their phases.
pub mod Limits
-- The bytes written for a whole state.
pub mod Written
-- Images that were worked out by hand.
pub mod Rows
-- The table of ACL lists.
pub mod Tables
-- A map in the order of the walk.
pub mod DepthFirst
-- A loop that appends one item after another.
pub mod Behind
-- A node's stat.
pub mod Nodes
-- The bytes of an image, section by section.
pub mod ImageBytes
