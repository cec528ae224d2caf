pub mod Completing
mod Examples
pub mod Naming
pub mod Outcomes
pub mod Somewhere
pub mod Spelling
pub mod Texts
