pub mod Completing
pub mod Outcomes
