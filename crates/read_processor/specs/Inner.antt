-- What the contracts of private functions cite. No caller depends on this.
pub mod Counts
pub mod Parts
pub mod Room
