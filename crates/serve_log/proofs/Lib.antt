-- For how many lines the items of a queue stand.
pub mod Counting
