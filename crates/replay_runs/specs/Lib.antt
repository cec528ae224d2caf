pub mod Deployed
pub mod Runs
