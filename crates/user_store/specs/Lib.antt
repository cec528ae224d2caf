pub mod Examples
pub mod Line
pub mod Places
pub mod Store
