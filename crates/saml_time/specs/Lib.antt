pub mod Calendar
pub mod Examples
pub mod Instant
pub mod Pieces
