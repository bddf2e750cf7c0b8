-- From feeding an engine to the audit of its log.
pub mod Feeding
