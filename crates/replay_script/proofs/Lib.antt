pub mod Digits
pub mod Reading
pub mod Utf8
-- Addresses are UTF-8.
pub mod Addresses
