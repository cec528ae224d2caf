pub mod Calls
pub mod Examples
pub mod Format
pub mod Journal
pub mod Making
pub mod Opening
pub mod Texts
