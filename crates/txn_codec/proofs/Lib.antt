-- The ends of transactions are sound.
pub mod Endings
-- Fields and records are sound.
pub mod Spelled
-- The end of a session is sound.
pub mod Closing
-- Operations, parts, bodies and transactions are sound.
pub mod Bodies
-- The results of `decode_txn`, and the field that a refusal names.
pub mod Naming
-- A decoded transaction is within the limits.
pub mod Limits
-- What is written of a create.
pub mod Written
-- A transaction is refused as its header or its body is.
pub mod Refused
