pub mod Config
pub mod Setup
