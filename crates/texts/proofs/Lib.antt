-- Decimal numbers, digit by digit.
pub mod Numbers
