pub mod Footprints
pub mod Laws
pub mod Inner
