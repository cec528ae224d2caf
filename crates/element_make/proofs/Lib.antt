pub mod Lists
pub mod Content
pub mod Attributes
pub mod Opens
pub mod Plain
pub mod Forms
pub mod Named
pub mod Spelled
mod Examples
