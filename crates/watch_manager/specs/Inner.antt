-- The meaning of the types' private fields, and the contracts of private loops. No caller depends on this.
pub mod Grouped
pub mod Lasting
pub mod Telling
pub mod Listing
