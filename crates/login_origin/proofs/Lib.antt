mod Examples
pub mod Digests
pub mod Lists
pub mod Meeting
pub mod Sayings
pub mod Shown
pub mod Signing
