pub mod Faults
pub mod Settled
pub mod Stages
pub mod Codes
