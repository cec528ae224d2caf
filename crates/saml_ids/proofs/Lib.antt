pub mod Digits
pub mod IdForm
pub mod Making
