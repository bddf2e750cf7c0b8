-- What a list has gained, step by step.
pub mod Gaining
-- Maps and sets read as finite maps and finite sets. Public.
pub mod Keyed
-- A key inserted into a set and removed again. Public.
pub mod SetSteps
