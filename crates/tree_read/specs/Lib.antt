pub mod AttributeNames
pub mod Children
pub mod Faults
pub mod Places
pub mod Texts
pub mod Views
pub mod Walk
