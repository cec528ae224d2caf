pub mod Conditions
pub mod Decide
pub mod Denied
pub mod Examples
pub mod Line
pub mod Rules
