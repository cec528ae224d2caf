pub mod Providers
pub mod Replayed
