pub mod Statuses
pub mod OneMessage
pub mod Indexes
pub mod Reading
pub mod Texts
mod Examples
