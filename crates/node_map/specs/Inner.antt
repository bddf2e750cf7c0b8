-- What the contracts of private functions cite. No caller depends on this.
pub mod NodeMapLends
pub mod Moving
