pub mod Tables
pub mod Spaces
pub mod Keys
pub mod Named
