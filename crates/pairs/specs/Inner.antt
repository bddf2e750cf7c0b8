-- The models of the types' private fields. No caller depends on this.
pub mod RowView
pub mod Stored
pub mod TableView
