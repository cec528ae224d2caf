pub mod Counts
pub mod Examples
pub mod Files
pub mod InMemory
pub mod Sinks
