-- The law of the record.
pub mod Records
-- The zxids of a log.
pub mod Zxids
-- The log is followed.
pub mod Logs
-- The accepted epoch, and the dialect.
pub mod Epochs
-- While clients are served.
pub mod Serving
-- The parts of an image.
pub mod Images
-- Worked steps.
pub mod Rows
-- The acts.
pub mod Acts
pub mod Each
-- The packets that are sent.
pub mod Sending
pub mod Tables
