pub mod Config
pub mod Faults
pub mod Files
pub mod Laws
pub mod Setup
pub mod Views
