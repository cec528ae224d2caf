pub mod Places
pub mod Composing
pub mod Room
pub mod Hashed
pub mod Names
pub mod Escapes
