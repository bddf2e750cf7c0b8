-- A setting that was made is the one asked for.
pub mod Making
