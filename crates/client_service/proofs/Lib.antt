pub mod Streams
pub mod Serving
pub mod Touching
pub mod Headers
pub mod Running
pub mod Emptied
pub mod Answering
-- The connections that close where a client claims a session.
pub mod Claiming
