pub mod Examples
pub mod Gives
pub mod Options
