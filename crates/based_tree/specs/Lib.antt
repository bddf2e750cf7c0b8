pub mod Based
-- What the contracts of private functions cite. No caller depends on this.
pub mod Inner
