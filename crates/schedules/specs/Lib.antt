pub mod Examples
pub mod Line
pub mod Made
pub mod Schedules
