pub mod Kept
pub mod Headlines
