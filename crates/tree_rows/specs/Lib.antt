pub mod Rows
pub mod Shaped
pub mod Views
pub mod Kept
