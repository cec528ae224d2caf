pub mod Headlines
mod Guarded
mod Expired
mod Kept
mod Setups
mod Shown
