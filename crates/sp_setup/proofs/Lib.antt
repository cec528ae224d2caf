pub mod Completing
mod Examples
pub mod Loading
pub mod Outcomes
pub mod Readings
pub mod Registries
pub mod SettingUp
pub mod Sources
pub mod Taking
pub mod Telling
pub mod Texts
