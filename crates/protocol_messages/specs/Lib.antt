pub mod Messages
pub mod Making
