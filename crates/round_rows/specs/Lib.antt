pub mod Rounds
pub mod Kept
pub mod Examples
