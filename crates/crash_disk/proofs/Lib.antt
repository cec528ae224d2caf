pub mod Following
pub mod RangeLaws
mod Faults
mod Calls
