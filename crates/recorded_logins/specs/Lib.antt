pub mod Documents
pub mod Logins
pub mod Recorded
