pub mod Config
pub mod Examples
pub mod Setup
