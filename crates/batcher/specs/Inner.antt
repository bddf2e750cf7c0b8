-- What the contracts of private functions cite. No caller depends on this.
pub mod Joining
pub mod Taking
pub mod Drafts
pub mod Owners
