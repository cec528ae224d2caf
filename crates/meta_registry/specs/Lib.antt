pub mod Aggregate
pub mod Faults
pub mod Listed
