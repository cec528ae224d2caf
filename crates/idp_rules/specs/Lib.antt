pub mod Asking
pub mod Config
pub mod Examples
pub mod Laws
pub mod Verdict
pub mod Views
