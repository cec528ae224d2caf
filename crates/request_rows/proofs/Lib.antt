pub mod Orders
pub mod Places
pub mod Adding
pub mod Finding
pub mod Changing
pub mod OneOrder
pub mod Sorting
