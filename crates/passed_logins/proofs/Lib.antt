mod AsIdp
mod Passed
