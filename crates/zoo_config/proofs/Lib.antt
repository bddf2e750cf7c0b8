mod Fronts
mod Parts
mod Places
