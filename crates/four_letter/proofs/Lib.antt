-- A list up to a place.
mod Fronts
-- Values, gathered row by row under their keys.
mod Groups
-- The sessions that watch each path, and the paths that each session watches, gathered row by row.
mod Gathering
-- Lines, appended one after the other.
mod Lines
-- Texts, evaluated on rows given as a list.
mod Evaluating
-- The sessions of a tree that own ephemeral nodes.
mod Owning
