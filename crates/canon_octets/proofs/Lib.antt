pub mod Appending
pub mod Escaping
pub mod Underway
pub mod Starting
