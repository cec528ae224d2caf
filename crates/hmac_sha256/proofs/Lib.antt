pub mod Bytes
pub mod Rounds
