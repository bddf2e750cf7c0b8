pub mod Kinds
pub mod Endings
pub mod Spelling
pub mod Parents
pub mod Row
pub mod Refusals
pub mod Inner
