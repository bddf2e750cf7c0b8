-- What the contracts of private functions cite. No caller depends on this.
pub mod Placing
pub mod Storing
pub mod Doing
pub mod Mending
