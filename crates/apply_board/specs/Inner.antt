-- What only private contracts cite.
pub mod Fields
pub mod Steps
pub mod Slots
