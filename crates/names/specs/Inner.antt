-- The model of the type's private field. No caller depends on this.
pub mod View
