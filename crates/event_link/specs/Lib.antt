pub mod Clocks
pub mod Examples
pub mod InMemory
pub mod Links
