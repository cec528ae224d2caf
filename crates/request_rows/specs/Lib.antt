pub mod Examples
pub mod Rows
pub mod Order
pub mod Indexed
pub mod Kept
