pub mod Addresses
pub mod Making
pub mod Texts
