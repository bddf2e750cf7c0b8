-- Places in a list, and in what a function makes of it.
mod Places
-- Numbers never change, and no two texts have the same one. Public.
pub mod Numbers
