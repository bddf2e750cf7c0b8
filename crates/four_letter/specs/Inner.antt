-- What private functions compute on the way. No caller depends on this.
pub mod Gathered
pub mod Owners
