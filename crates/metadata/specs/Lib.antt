pub mod Metadata
pub mod Making
pub mod Faults
