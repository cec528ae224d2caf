pub mod Names
pub mod Uris
pub mod Views
